-- J1 across the first place and across the last.
use Rattle.std.proofs.Common.{◌≡◌, ℕ, ◌-◌, ◌<◌, ◌≤◌, Bool, true, not, List, get_or, set, Some, None, Option, sym, refl, ap, ◌∙◌, subst, arith}
use Rattle.std.specs.Option.{option_map}
use Rattle.mesh.specs.declared.grid.Grid.{Grid}
use Rattle.cells.specs.Triangulation.{Shape, moved}
use Rattle.cells.specs.Cells.{shape_of}
use Rattle.cells.specs.Ways.{wall_of}
use Rattle.cells.specs.declared.cell.Cell.{Cell}
use Rattle.cells.specs.declared.wall.Wall.{Wall}
use Rattle.cells.specs.declared.wall.Way.TheVariants.{Moved, Stopped}
use Rattle.todd_laws.specs.Steps.{level, shift, nth, stop, or_else}
use Rattle.todd_laws.specs.J1.{J1Cell, j1_corner, j1_last, j1_across, j1, upward}
use Rattle.todd_laws.specs.Records.{Holds, corner_at}
use Rattle.todd.specs.Walk.{Crosses}
use Rattle.todd_laws.proofs.InFamily.{j1-in-family}
use Rattle.todd.proofs.Records.{shape_is, nth-is, way-is, moved_twice, ups-turned}
use Rattle.todd.proofs.Crossing.{crosses-wall, crosses-moved, at-last}

module _ (d : Grid) (c : Cell) (up : Bool) (r : Option Wall) where
  abbrev s : Shape
  s = shape_of d.goods c

  -- The record with the direction of level j turned round.
  abbrev turned_at : List ℕ → ℕ → Cell
  turned_at base j = record { base = base; order = c.order; ups = set c.ups (j - 1) (not (get_or c.ups (j - 1) true)) }

  -- Across the first place.
  module _ (way : up ≡ get_or c.ups (get_or c.order 0 0 - 1) true)
      (tells : Holds d c → option_map wall_of r ≡ stop d.mesh up (corner_at d c 1) (get_or c.order 0 0)) (cell : J1Cell d.goods d.mesh (shape_of d.goods c)) where
    abbrev j : ℕ
    j = get_or c.order 0 0

    holds : Holds d c
    holds = j1-in-family.holds d c cell

    some : 1 ≤ d.goods
    some = omega (arith, d.goods_fit.0)

    first-way : up ≡ upward s (nth s.order 1)
    first-way = way-is d c holds 1 (omega arith) some j refl up way

    first-stop : option_map wall_of r ≡ stop d.mesh (upward s (nth s.order 1)) (j1_corner s 1) (nth s.order 1)
    first-stop =
        tells holds ∙ ap (λ u. stop d.mesh u (corner_at d c 1) j) first-way
        ∙ ap (stop d.mesh (upward s (nth s.order 1)) (corner_at d c 1)) (nth-is d c holds 1 (omega arith) some j refl)

    pub first-moved : (once twice : List ℕ) (e : Cell) → r ≡ None → (level c.base j < 4294967295 → once ≡ shift up c.base j)
        → (level once j < 4294967295 → twice ≡ shift up once j) → e ≡ turned_at twice j → Crosses d.goods c ((j1 d.goods d.mesh).across s 0) (Moved 0) e
    first-moved once twice e is m1 m2 is-turned =
        let g = d.goods in
        let twice_is
        = moved_twice d c holds 1 (omega arith) some j refl up once twice m1 m2 ∙ ap (λ u. shift u (shift u s.base (nth s.order 1)) (nth s.order 1)) first-way
        in
        crosses-moved _ _ _ first-stop is
        (ap (shape_of g) is-turned ∙ shape_is _ _ _ _ _ _ twice_is refl (ups-turned d c holds 1 (omega arith) some j refl))

  -- Across the last.
  module _ (n : ℕ) (goods : n ≡ d.goods) (way : up ≡ get_or c.ups (get_or c.order (n - 1) 0 - 1) true)
      (tells : Holds d c → option_map wall_of r ≡ stop d.mesh (not up) (corner_at d c (n - 1)) (get_or c.order (n - 1) 0))
      (cell : J1Cell d.goods d.mesh (shape_of d.goods c)) where
    abbrev k : ℕ
    k = get_or c.order (n - 1) 0

    there : Holds d c
    there = j1-in-family.holds d c cell

    any : 1 ≤ d.goods
    any = omega (arith, d.goods_fit.0)

    last-is : k ≡ get_or c.order (d.goods - 1) 0
    last-is = ap (λ m. get_or c.order (m - 1) 0) goods

    last-stop : option_map wall_of r ≡ stop d.mesh (not (upward s (nth s.order d.goods))) (j1_corner s (d.goods - 1)) (nth s.order d.goods)
    last-stop =
        tells there ∙ ap (λ m. stop d.mesh (not up) (corner_at d c (m - 1)) k) goods
        ∙ ap (λ u. stop d.mesh (not u) (corner_at d c (d.goods - 1)) k) (way-is d c there d.goods any (omega arith) k last-is up way)
        ∙ ap (stop d.mesh (not (upward s (nth s.order d.goods))) (corner_at d c (d.goods - 1))) (nth-is d c there d.goods any (omega arith) k last-is)

    across-last : j1_across d.goods d.mesh s d.goods
        ≡ or_else (stop d.mesh (not (upward s (nth s.order d.goods))) (j1_corner s (d.goods - 1)) (nth s.order d.goods)) (moved (j1_last d.goods s) d.goods)
    across-last = at-last d.goods d.goods_fit.0 _ _ _

    pub last-wall : (w : Wall) → r ≡ Some w → Crosses d.goods c ((j1 d.goods d.mesh).across s d.goods) (Stopped w) c
    last-wall w is = subst (λ x. Crosses d.goods c x (Stopped w) c) (sym across-last) (crosses-wall _ _ _ last-stop is)

    pub last-moved : (e : Cell) → r ≡ None → e ≡ turned_at c.base k → Crosses d.goods c ((j1 d.goods d.mesh).across s d.goods) (Moved n) e
    last-moved e is is-turned =
        subst (λ m. Crosses d.goods c ((j1 d.goods d.mesh).across s d.goods) (Moved m) e) (sym goods)
        (subst (λ x. Crosses d.goods c x (Moved d.goods) e) (sym across-last)
        (crosses-moved _ _ _ last-stop is (ap (shape_of d.goods) is-turned ∙ shape_is _ _ _ _ _ _ refl refl (ups-turned d c there d.goods any (omega arith) k last-is))))
