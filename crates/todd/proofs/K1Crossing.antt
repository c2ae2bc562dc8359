-- K1 across the first place and across the last.
use Rattle.std.proofs.Common.{◌≡◌, ℕ, ◌-◌, ◌<◌, true, false, List, ◌++◌, length, get_or, take, drop, Some, None, Option, sym, refl, ap, ◌∙◌, subst, arith}
use Rattle.std.specs.Option.{option_map}
use Rattle.mesh.specs.declared.grid.Grid.{Grid}
use Rattle.cells.specs.Triangulation.{Shape, moved}
use Rattle.cells.specs.Cells.{shape_of}
use Rattle.cells.specs.Ways.{wall_of}
use Rattle.cells.specs.declared.cell.Cell.{Cell}
use Rattle.cells.specs.declared.wall.Wall.{Wall}
use Rattle.cells.specs.declared.wall.Way.TheVariants.{Moved, Stopped}
use Rattle.todd_laws.specs.Steps.{level, shift, nth, stop, or_else}
use Rattle.todd_laws.specs.K1.{K1Cell, k1_corner, k1_last, k1_across, k1}
use Rattle.todd_laws.specs.Records.{Holds, corner_at}
use Rattle.todd.specs.Walk.{Crosses}
use Rattle.todd_laws.proofs.InFamily.{k1-in-family}
use Rattle.todd.proofs.Records.{shape_is, nth-is, moved_in}
use Rattle.todd.proofs.Crossing.{crosses-wall, crosses-moved, at-last}
use Rattle.todd.proofs.Turns.{rotated_left, rotated_right}

module _ (d : Grid) (c : Cell) (n : ℕ) (goods : n ≡ d.goods) (r : Option Wall) where
  abbrev s : Shape
  s = shape_of d.goods c

  -- Across the first place.
  module _ (tells : Holds d c → option_map wall_of r ≡ stop d.mesh true (corner_at d c n) (get_or c.order 0 0)) (cell : K1Cell d.goods d.mesh (shape_of d.goods c)) where
    holds : Holds d c
    holds = k1-in-family.holds d c cell

    first-stop : option_map wall_of r ≡ stop d.mesh true (k1_corner s d.goods) (nth s.order 1)
    first-stop =
        tells holds ∙ ap (λ v. stop d.mesh true v (get_or c.order 0 0)) (ap (corner_at d c) goods ∙ k1-in-family.corner d c cell d.goods)
        ∙ ap (stop d.mesh true (k1_corner s d.goods)) (nth-is d c holds 1 (omega arith) (omega (arith, d.goods_fit.0)) (get_or c.order 0 0) refl)

    pub first-wall : (w : Wall) → r ≡ Some w → Crosses d.goods c ((k1 d.goods d.mesh).across s 0) (Stopped w) c
    first-wall w is = crosses-wall _ _ _ first-stop is

    pub first-moved : (base order : List ℕ) → r ≡ None → (level c.base (get_or c.order 0 0) < 4294967295 → base ≡ shift true c.base (get_or c.order 0 0))
        → order ≡ drop 1 (take n c.order) ++ take 1 (take n c.order)
        → Crosses d.goods c ((k1 d.goods d.mesh).across s 0) (Moved n) (record { base = base; order = order ++ drop n c.order; ups = c.ups })
    first-moved base order is moves turned =
        let g = d.goods in
        let base-is = moved_in d c holds 1 (omega arith) (omega (arith, d.goods_fit.0)) (get_or c.order 0 0) refl 0 (omega arith) true c.base base refl moves in
        subst (λ m. Crosses g c ((k1 g d.mesh).across s 0) (Moved m) (record { base = base; order = order ++ drop n c.order; ups = c.ups })) (sym goods)
        (crosses-moved _ _ _ first-stop is (shape_is _ _ _ _ _ _ base-is (rotated_left n g c.order order goods turned cell.order.size) refl))

  -- Across the last.
  module _ (tells : Holds d c → option_map wall_of r ≡ stop d.mesh false (corner_at d c 0) (get_or c.order (n - 1) 0)) (cell : K1Cell d.goods d.mesh (shape_of d.goods c)) where
    there : Holds d c
    there = k1-in-family.holds d c cell

    last-is : get_or c.order (n - 1) 0 ≡ get_or c.order (d.goods - 1) 0
    last-is = ap (λ m. get_or c.order (m - 1) 0) goods

    last-stop : option_map wall_of r ≡ stop d.mesh false s.base (nth s.order d.goods)
    last-stop =
        tells there
        ∙ ap (stop d.mesh false s.base) (nth-is d c there d.goods (omega (arith, d.goods_fit.0)) (omega arith) (get_or c.order (n - 1) 0) last-is)

    across-last : k1_across d.goods d.mesh s d.goods ≡ or_else (stop d.mesh false s.base (nth s.order d.goods)) (moved (k1_last d.goods s) 0)
    across-last = at-last d.goods d.goods_fit.0 _ _ _

    pub last-wall : (w : Wall) → r ≡ Some w → Crosses d.goods c ((k1 d.goods d.mesh).across s d.goods) (Stopped w) c
    last-wall w is = subst (λ x. Crosses d.goods c x (Stopped w) c) (sym across-last) (crosses-wall _ _ _ last-stop is)

    pub last-moved : (base order : List ℕ) → r ≡ None → (level c.base (get_or c.order (n - 1) 0) < 4294967295 → base ≡ shift false c.base (get_or c.order (n - 1) 0))
        → order ≡ drop (length (take n c.order) - 1) (take n c.order) ++ take (length (take n c.order) - 1) (take n c.order)
        → Crosses d.goods c ((k1 d.goods d.mesh).across s d.goods) (Moved 0) (record { base = base; order = order ++ drop n c.order; ups = c.ups })
    last-moved base order is moves turned =
        let g = d.goods in
        let base-is = moved_in d c there g (omega (arith, d.goods_fit.0)) (omega arith) (get_or c.order (n - 1) 0) last-is 0 (omega arith) false c.base base refl moves in
        subst (λ x. Crosses g c x (Moved 0) (record { base = base; order = order ++ drop n c.order; ups = c.ups })) (sym across-last)
        (crosses-moved _ _ _ last-stop is
        (shape_is _ _ _ _ _ _ base-is (rotated_right n g c.order order (omega (arith, d.goods_fit.0)) goods turned cell.order.size) refl))
