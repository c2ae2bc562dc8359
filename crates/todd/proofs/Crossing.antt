-- Crossing a record of a cell: what the code answers and leaves is what lies across.
--   crosses-wall, -moved     by the test for a wall: at a wall, and to the neighbour
--   at-last                  what lies across the last place
--   middle_wall, _moved      what lies across a place between
use Rattle.std.proofs.Common.{◌≡◌, ℕ, suc, ◌+◌, ◌-◌, ◌<◌, ◌≤◌, Bool, true, List, length, get_or, take, set, Some, None, Option, sym, refl, ap, ◌∙◌, arith, cond, eqb}
use Rattle.std.specs.List.{swap}
use Rattle.std.specs.Option.{option_map}
use Rattle.std.proofs.Math.Seq.{take-set-lt}
use Rattle.std.proofs.lemmas.Bool.{eq-eqb, ne_eqb, cond-true, cond-false}
use Rattle.std.proofs.lemmas.List.{get_or-take, length-take}
use Rattle.std.proofs.lemmas.List.Edits.{swap_is}
use Rattle.mesh.specs.declared.grid.Grid.{Grid}
use Rattle.cells.specs.Corners as corners
use Rattle.cells.specs.Triangulation.{Shape, moved}
use Rattle.cells.specs.Cells.{shape_of}
use Rattle.cells.specs.Ways.{wall_of}
use Rattle.cells.specs.declared.cell.Cell.{Cell}
use Rattle.cells.specs.declared.wall.Wall.{Wall}
use Rattle.cells.specs.declared.wall.Way.TheVariants.{Moved, Stopped}
use Rattle.todd_laws.specs.Steps.{nth, stop, or_else, swap_at}
use Rattle.todd_laws.specs.J1.{upward}
use Rattle.todd_laws.specs.Records.{Holds, corner_at, middle_across}
use Rattle.todd.specs.Walk.{Crosses}
use Rattle.todd.proofs.Records.{shape_is, nth-is, way-is}

pub crosses-wall : {g : ℕ} {c : Cell} {r : Option Wall} {w : Wall} (o : Option corners.Wall) (b : Shape) (j : ℕ) → option_map wall_of r ≡ o → r ≡ Some w
    → Crosses g c (or_else o (moved b j)) (Stopped w) c
crosses-wall {r = r} {w} (Some v) b j tells is =
    let e : ◌≡◌ {A = Option corners.Wall} (Some (wall_of w)) (Some v) = ap (option_map wall_of) (sym is) ∙ tells in
    record { says = cc; left = refl }
crosses-wall {r = r} {w} None b j tells is =
    let e : ◌≡◌ {A = Option corners.Wall} (Some (wall_of w)) None = ap (option_map wall_of) (sym is) ∙ tells in
    absurd cc

pub crosses-moved : {g : ℕ} {c d : Cell} {r : Option Wall} (o : Option corners.Wall) (b : Shape) (j : ℕ) → option_map wall_of r ≡ o → r ≡ None → shape_of g d ≡ b
    → Crosses g c (or_else o (moved b j)) (Moved j) d
crosses-moved {r = r} (Some v) b j tells is shape =
    let e : ◌≡◌ {A = Option corners.Wall} None (Some v) = ap (option_map wall_of) (sym is) ∙ tells in
    absurd cc
crosses-moved None b j tells is shape = record { says = refl; left = shape }

-- The case of the last place, in a choice between the first, the last and the others.
pub at-last : {A : Type 0} (g : ℕ) → 2 ≤ g → (x y z : A) → cond (eqb g 0) x (cond (eqb g g) y z) ≡ y
at-last g some x y z = cond-false (eqb g 0) x _ (ne_eqb g 0 (λ e. omega arith)) ∙ cond-true (eqb g g) y z (eq-eqb g g refl)

-- The swap of the code is that of the order.
swapped : (g : ℕ) (p : List ℕ) (i : ℕ) → 1 ≤ i → i < g → i < length p → take g (swap p (i - 1) i) ≡ swap_at (take g p) i
swapped g p i low high long =
    let e : i + 1 - 1 ≡ i = omega arith in
    ap (take g) (sym (swap_is p (i - 1) i 0 (omega arith) long))
    ∙ take-set-lt g (set p (i - 1) (get_or p i 0)) i (get_or p (i - 1) 0) high
    ∙ ap (λ l. set l i (get_or p (i - 1) 0)) (take-set-lt g p (i - 1) (get_or p i 0) (omega arith))
    ∙ ap (λ n. set (set (take g p) (i - 1) (get_or p i 0)) i n) (sym (get_or-take g p (i - 1) 0 (omega arith)))
    ∙ ap (λ n. set (set (take g p) (i - 1) n) i (nth (take g p) i)) (sym (get_or-take g p i 0 high))
    ∙ ap (λ n. set (set (take g p) (i - 1) (get_or (take g p) n 0)) i (nth (take g p) i)) (sym e)

-- Between the first place and the last.
module _ (d : Grid) (c : Cell) (i : ℕ) (some : 1 ≤ i) (most : i < d.goods) (up : Bool) (way : up ≡ get_or c.ups (get_or c.order i 0 - 1) true) (r : Option Wall)
    (tells : Holds d c → option_map wall_of r ≡ stop d.mesh up (corner_at d c (i - 1)) (get_or c.order i 0)) (holds : Holds d c) where
  abbrev s : Shape
  s = shape_of d.goods c

  tells-here : option_map wall_of r ≡ stop d.mesh (upward s (nth s.order (suc i))) (corner_at d c (i - 1)) (nth s.order (suc i))
  tells-here =
      let same : i ≡ suc i - 1 = omega arith in
      let there = ap (λ n. get_or c.order n 0) same in
      tells holds
      ∙ ap (λ u. stop d.mesh u (corner_at d c (i - 1)) (get_or c.order i 0)) (way-is d c holds (suc i) (omega arith) (omega arith) (get_or c.order i 0) there up way)
      ∙ ap (stop d.mesh (upward s (nth s.order (suc i))) (corner_at d c (i - 1))) (nth-is d c holds (suc i) (omega arith) (omega arith) (get_or c.order i 0) there)

  pub middle_wall : (w : Wall) → r ≡ Some w → Crosses d.goods c (middle_across d c i) (Stopped w) c
  middle_wall w is = crosses-wall _ _ _ tells-here is

  pub middle_moved : (order : List ℕ) → r ≡ None → order ≡ swap c.order (i - 1) i
      → Crosses d.goods c (middle_across d c i) (Moved i) (record { base = c.base; order = order; ups = c.ups })
  middle_moved order is o =
      crosses-moved _ _ _ tells-here is (shape_is _ _ _ _ _ _ refl (ap (take d.goods) o ∙ swapped d.goods c.order i some most (omega (arith, length-take d.goods c.order, holds.order.size))) refl)
