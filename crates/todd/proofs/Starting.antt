-- The start cells as records.
use Rattle.std.proofs.Common.{◌≡◌, ℕ, [], suc, zero, ◌-◌, ◌<◌, ◌≤◌, true, false, List, ◌∷◌, map, length, get_or, take, drop, replicate, sum, sym, refl, ap, ◌∙◌, arith}
use Rattle.std.proofs.lemmas.List.Sums.{sum_by-take-drop}
use Rattle.std.proofs.lemmas.List.{get_or-take, get_or-map, length-take, length-map, ext_get_or, take-replicate}
use Rattle.mesh.specs.Prices.{to_levels}
use Rattle.mesh.specs.Points.{goods_of, prices_of}
use Rattle.mesh.specs.declared.point.PricePoint.{PricePoint}
use Rattle.mesh.proofs.Levels.{length-levels}
use Rattle.mesh.proofs.PointLevels.{prices-size}
use Rattle.mesh.proofs.PointPrices.{mesh-small}
use Rattle.cells.specs.Cells.{shape_of}
use Rattle.todd_laws.specs.Steps.{up_from, down_from, start_shape}
use Rattle.todd.specs.Walk.{Raised}
use Rattle.todd_laws.proofs.StartCell.{length-down, down-at}
use Rattle.todd.proofs.Records.{shape_is}

-- The first numbers of a rising order.
take-up : (j n m : ℕ) → n ≤ m → take n (up_from j m) ≡ up_from j n
take-up j zero m h = refl
take-up j (suc n) zero h = absurd (omega arith)
take-up j (suc n) (suc m) h = ap (λ l. suc j ∷ l) (take-up (suc j) n m (omega arith))

-- The front of the order and of the directions of a start cell with all levels up.
pub order_up : (g : ℕ) → g ≤ 8 → take g (1 ∷ 2 ∷ 3 ∷ 4 ∷ 5 ∷ 6 ∷ 7 ∷ 8 ∷ []) ≡ up_from 0 g
order_up g few = take-up 0 g 8 few

pub ways_up : (g : ℕ) → g ≤ 8 → take g (true ∷ true ∷ true ∷ true ∷ true ∷ true ∷ true ∷ true ∷ []) ≡ replicate g true
ways_up g few = take-replicate g 8 true few

module _ (p : PricePoint) where
  -- The start cell with all levels down.
  pub start-down : (levels base order : List ℕ) → take (goods_of p) levels ≡ to_levels (prices_of p)
      → ((i : ℕ) → i < goods_of p → get_or levels i 0 < 4294967295)
      → Raised levels base → length order ≡ 8 → ((k : ℕ) → k < 8 → get_or order k 0 ≡ goods_of p - k)
      → shape_of (goods_of p) (record { base = base; order = order; ups = replicate 8 false }) ≡ start_shape (goods_of p) false (prices_of p)
  start-down levels base order l room raised size falls =
      let g = goods_of p in
      let few = p.grid.goods_fit.1 in
      let base-size : length (take g base) ≡ g = omega (arith, length-take g base, raised.size) in
      let levels-size : length (to_levels (prices_of p)) ≡ g = length-levels (prices_of p) ∙ prices-size p in
      let order-size : length (take g order) ≡ g = omega (arith, length-take g order) in
      let base-is : take g base ≡ map suc (to_levels (prices_of p))
      = ext_get_or 0 (take g base) (map suc (to_levels (prices_of p))) (base-size ∙ sym (length-map (to_levels (prices_of p)) suc ∙ levels-size))
      (λ i h.
      let in_g : i < g = omega arith in
      get_or-take g base i 0 in_g ∙ raised.more i (omega arith) (room i in_g) ∙ ap suc (sym (get_or-take g levels i 0 in_g) ∙ ap (λ v. get_or v i 0) l)
      ∙ sym (get_or-map suc (to_levels (prices_of p)) i 0 0 (omega arith)))
      in
      let order_is : take g order ≡ down_from g
      = ext_get_or 0 (take g order) (down_from g) (order-size ∙ sym (length-down g))
      (λ i h. let in_g : i < g = omega arith in get_or-take g order i 0 in_g ∙ falls i (omega arith) ∙ sym (down-at g i in_g))
      in
      shape_is _ _ _ _ _ _ base-is order_is (take-replicate g 8 false few)

  pub levels-room : (levels : List ℕ) → ((j : ℕ) → j < goods_of p → get_or levels j 0 ≡ sum (drop j (prices_of p)))
      → (i : ℕ) → i < goods_of p → get_or levels i 0 < 4294967295
  levels-room levels sums i h = omega (arith, sums i h, sum_by-take-drop (λ n. n) (prices_of p) i, p.adds_up, mesh-small p)
