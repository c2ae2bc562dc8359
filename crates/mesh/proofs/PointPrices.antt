-- The prices of a price point are bounded.
use Rattle.std.proofs.Common.{ℕ, zero, suc, ◌<◌, ◌≤◌, leb, length, get_or, sum, ⊎_elim, arith}
use Rattle.std.proofs.lemmas.List.{get_or_past, get_or-take}
use Rattle.std.proofs.lemmas.List.Sums.{get_or-le-sum_by}
use Rattle.std.proofs.lemmas.Bool.{cases_lt, cond_both}
use Rattle.mesh.specs.Prices.{price}
use Rattle.mesh.specs.Range.{most}
use Rattle.mesh.specs.Points.{goods_of, mesh_of, prices_of}
use Rattle.mesh.specs.declared.grid.Grid.{Grid}
use Rattle.mesh.specs.declared.point.PricePoint.{PricePoint}

pub most-small : (g : ℕ) → most g ≤ 16384
most-small g = cond_both (leb g 4) 16384 128 (λ n. n ≤ 16384) (λ e. omega arith) (λ e. omega arith)

-- No mesh is above 16,384, whatever the goods.
pub grid-small : (d : Grid) → d.mesh ≤ 16384
grid-small d = omega (arith, most-small d.goods, d.mesh_fits.1)

pub mesh-small : (p : PricePoint) → mesh_of p ≤ 16384
mesh-small p = grid-small p.grid

pub sum-small : (p : PricePoint) → sum (prices_of p) ≤ 16384
sum-small p = omega (arith, mesh-small p, p.adds_up)

-- No price is above 16,384, nor is an entry of the point's table that is one.
pub price-small : (p : PricePoint) (j : ℕ) → price (prices_of p) j ≤ 16384
price-small p zero = omega arith
price-small p (suc j) =
    ⊎_elim (λ h. omega (arith, get_or-le-sum_by (λ n. n) (prices_of p) j 0 h, sum-small p)) (λ h. omega (arith, get_or_past (prices_of p) j 0 h)) (cases_lt j (length (prices_of p)))

pub entry_small : (p : PricePoint) (j : ℕ) → j < goods_of p → get_or p.prices j 0 ≤ 16384
entry_small p j h = omega (arith, get_or-take (goods_of p) p.prices j 0 h, price-small p (suc j))
