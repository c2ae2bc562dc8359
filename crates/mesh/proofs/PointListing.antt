-- The first price point of a grid, and the one right after another.
use Rattle.std.proofs.Common.{◌≡◌, ℕ, zero, suc, ◌-◌, ◌<◌, List, [], ◌∷◌, length, get_or, take, sum, sym, ap, ◌∙◌, arith}
use lib.Seq.{take-set-lt}
use Rattle.std.proofs.lemmas.List.{get_or-take, length-take, length-take-le, take_all}
use Rattle.std.proofs.lemmas.List.Sums.{sum_by-take-le}
use Rattle.mesh.specs.Listing.{IsFirst, IsLast, RightAfter}
use Rattle.mesh.specs.Points.{goods_of, mesh_of, prices_of}
use Rattle.mesh.specs.Step.{NonePriced, LastPriced, stepped}
use Rattle.mesh.specs.declared.grid.Grid.{Grid}
use Rattle.mesh.specs.declared.point.PricePoint.{PricePoint}
use Rattle.mesh.proofs.Listing.{sum-cons, first-from, last-from, after-from, step_sum}
use Rattle.mesh.proofs.PointLevels.{prices-size}

-- A table with all of its sum on the first entry holds the first prices.
pub top-adds-up : (g D : ℕ) (r : List ℕ) → 0 < g → get_or r 0 0 ≡ D → sum r ≡ D → sum (take g r) ≡ D
top-adds-up g D [] some top e = ap sum (take_all g [] (omega arith)) ∙ e
top-adds-up zero D (x ∷ xs) some top e = absurd (omega arith)
top-adds-up (suc g) D (x ∷ xs) some top e =
    omega (arith, sum-cons x xs, sum-cons x (take g xs), sum_by-take-le (λ n. n) xs g)

pub first_point : (d : Grid) (r : List ℕ) → length r ≡ 8 → get_or r 0 0 ≡ d.mesh → sum r ≡ d.mesh → IsFirst d.goods d.mesh (take d.goods r)
first_point d r size top e =
    first-from d.goods d.mesh (take d.goods r) (simp length-take (omega arith)) (top-adds-up d.goods d.mesh r (omega arith) top e)
    (get_or-take d.goods r 0 0 (omega arith) ∙ top)

-- The prices of the goods before the last.
module _ (p : PricePoint) where
  abbrev pub before-last : List ℕ
  before-last = take (goods_of p - 1) p.prices

  before-size : length before-last ≡ goods_of p - 1
  before-size = length-take-le (goods_of p - 1) p.prices (omega (arith, p.room, p.grid.goods_fit.1))

  -- A point that has none above 0 is the last.
  pub last-point : NonePriced before-last (length before-last) → IsLast (goods_of p) (mesh_of p) (prices_of p)
  last-point none =
      last-from (goods_of p) (mesh_of p) (prices_of p) (prices-size p) p.adds_up
      (λ k h. get_or-take (goods_of p) p.prices k 0 (omega arith) ∙ sym (get_or-take (goods_of p - 1) p.prices k 0 h) ∙ none k (rw before-size h))

  -- The last one above 0, by its place in the point's table.
  pub last-before : (i : ℕ) → LastPriced before-last (length before-last) i → LastPriced p.prices (goods_of p - 1) i
  last-before i h =
      let low : i < goods_of p - 1 = rw before-size at h.0 in
      (low, rw get_or-take at h.1, λ k above below. sym (get_or-take (goods_of p - 1) p.prices k 0 below) ∙ h.2 k above (rw before-size below))

-- The table that a step makes of a point's.
module _ (p : PricePoint) (i : ℕ) (h : LastPriced p.prices (goods_of p - 1) i) where
  -- Its prices are a step from the point's.
  step-prices : take (goods_of p) (stepped p.prices (goods_of p - 1) i) ≡ stepped (prices_of p) (goods_of p - 1) i
  step-prices =
      let in-i : i < goods_of p = omega arith in
      let in-next : suc i < goods_of p = omega arith in
      let in-last : goods_of p - 1 < goods_of p = omega arith in
      simp (take-set-lt, get_or-take)

  -- Among the point's prices too, i is the last place with one.
  prices-last : LastPriced (prices_of p) (goods_of p - 1) i
  prices-last =
      let in-i : i < goods_of p = omega arith in
      (h.0, rw get_or-take h.1, λ k above below. let in-k : k < goods_of p = omega arith in rw get_or-take (h.2 k above below))

  -- They add up to the mesh.
  pub step-adds-up : (r : List ℕ) → r ≡ stepped p.prices (goods_of p - 1) i → sum (take (goods_of p) r) ≡ mesh_of p
  step-adds-up r e =
      ap (λ t. sum (take (goods_of p) t)) e ∙ ap sum step-prices
      ∙ step_sum (prices_of p) (goods_of p - 1) i (prices-size p ∙ omega arith) prices-last ∙ p.adds_up

  -- They come right after the point's.
  pub step-point : (r : List ℕ) → r ≡ stepped p.prices (goods_of p - 1) i → RightAfter (goods_of p) (mesh_of p) (prices_of p) (take (goods_of p) r)
  step-point r e =
      rw (e, step-prices) (after-from (goods_of p) (mesh_of p) (prices_of p) i (prices-size p) p.adds_up prices-last)
