-- The levels of a price point, and a price point from levels.
use Rattle.std.proofs.Common.{◌≡◌, ℕ, ◌+◌, ◌≤◌, ◌<◌, true, List, [], length, get_or, take, drop, sum, sym, ap, ◌∙◌, arith}
use Rattle.std.proofs.lemmas.List.{length-take, get_or-take, drop_all}
use Rattle.std.proofs.lemmas.List.Sums.{sum_by-drop_more, sum_by-take-drop}
use Rattle.std.proofs.lemmas.Bool.{and_parts, eqb-true}
use Rattle.tables.proofs.Made.{front}
use Rattle.mesh.specs.Prices.{first, Falls, to_prices, to_levels}
use Rattle.mesh.specs.Points.{goods_of, mesh_of, prices_of, levels_fit}
use Rattle.mesh.specs.declared.grid.Grid.{Grid}
use Rattle.mesh.specs.declared.point.PricePoint.{PricePoint}
use Rattle.mesh.proofs.Levels.{length-levels, level-is, prices-levels, falls-levels, falls-true, first-levels, sum-prices, levels-prices}

module _ (p : PricePoint) where
  -- As many prices as goods.
  pub prices-size : length (prices_of p) ≡ goods_of p
  prices-size = length-take (goods_of p) p.prices ∙ omega (arith, p.room, p.grid.goods_fit.1)

  -- The sum of the prices from a place on is one more price than that from the next.
  pub sum-more : (j : ℕ) → j < goods_of p → sum (drop j (prices_of p)) ≡ get_or p.prices j 0 + sum (drop (j + 1) (prices_of p))
  sum-more j h =
      sum_by-drop_more (λ n. n) (prices_of p) j 0 (omega (arith, prices-size))
      ∙ ap (λ n. n + sum (drop (j + 1) (prices_of p))) (get_or-take (goods_of p) p.prices j 0 h)

  -- From the last good on it is the last price.
  pub sum-last : (j : ℕ) → j + 1 ≡ goods_of p → sum (drop j (prices_of p)) ≡ get_or p.prices j 0
  sum-last j h =
      let none : drop (j + 1) (prices_of p) ≡ [] = drop_all (j + 1) (prices_of p) (omega (arith, prices-size)) in
      let zero : sum (drop (j + 1) (prices_of p)) ≡ 0 = ap sum none in
      omega (arith, sum-more j (omega arith))

  -- It is at most the mesh.
  pub levels-small : (j : ℕ) → sum (drop j (prices_of p)) ≤ mesh_of p
  levels-small j = omega (arith, sum_by-take-drop (λ n. n) (prices_of p) j, p.adds_up)

  -- No price is above the mesh.
  pub price-below-mesh : (j : ℕ) → j < goods_of p → get_or p.prices j 0 ≤ mesh_of p
  price-below-mesh j h = omega (arith, sum-more j h, levels-small j)

  -- What is known of a table of these sums.
  pub levels-known : (r : List ℕ) → length r ≡ 8 → ((j : ℕ) → j < goods_of p → get_or r j 0 ≡ sum (drop j (prices_of p)))
      → (take (goods_of p) r ≡ to_levels (prices_of p))
      × (to_prices (take (goods_of p) r) ≡ prices_of p)
      × Falls (take (goods_of p) r)
      × (first (take (goods_of p) r) ≡ mesh_of p)
  levels-known r room sums =
      let few = p.grid.goods_fit.1 in
      let size : length (to_levels (prices_of p)) ≡ goods_of p = length-levels (prices_of p) ∙ prices-size in
      let e : take (goods_of p) r ≡ to_levels (prices_of p)
      = front (to_levels (prices_of p)) r (goods_of p) 0 size (omega arith) (λ j h. sums j h ∙ sym (level-is (prices_of p) j (omega (arith, prices-size)))) in (
        e,
        ap to_prices e ∙ prices-levels (prices_of p),
        rw e (falls-levels (prices_of p)),
        ap first e ∙ first-levels (prices_of p) ∙ p.adds_up,
      )

-- A table of the prices of levels that fit.
pub made-at-levels : (d : Grid) (u r : List ℕ) → levels_fit d.goods d.mesh u ≡ true → (length u ≤ 8 → take (length u) r ≡ to_prices u)
    → (sum (take d.goods r) ≡ d.mesh) × (to_levels (take d.goods r) ≡ u)
made-at-levels d u r fit same =
    let size-rest = and_parts _ _ fit in
    let top-falls = and_parts _ _ size-rest.1 in
    let size : length u ≡ d.goods = eqb-true _ _ size-rest.0 in
    let top : first u ≡ d.mesh = eqb-true _ _ top-falls.0 in
    let falls = falls-true u top-falls.1 in
    let x : take d.goods r ≡ to_prices u = ap (λ n. take n r) (sym size) ∙ same (omega (arith, d.goods_fit.1)) in
    (ap sum x ∙ sum-prices u falls ∙ top, ap to_levels x ∙ levels-prices u falls)
