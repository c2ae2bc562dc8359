-- What a grid and a price point hold, and what making one answers.
use Rattle.std.specs.Prelude.{ℕ, Bool, ◌&&◌, List, length, take, Ok, Result, ◌==◌}
use Rattle.mesh.specs.Range.{fit_goods, fit_mesh, prices_add_up}
use Rattle.mesh.specs.Refusals.{Told, insist}
use Rattle.mesh.specs.Prices.{first, falls, to_prices}
use Rattle.mesh.specs.declared.grid.Grid.{Grid}
use Rattle.mesh.specs.declared.point.PricePoint.{PricePoint}

-- A price point as a reader thinks of it: so many goods, a mesh, and the prices of the goods.
pub record Priced : Type 0 where
  pub goods : ℕ
  pub mesh : ℕ
  pub prices : List ℕ

-- The goods and the mesh of a grid.
abbrev pub grid_of : Grid → ℕ × ℕ
grid_of d = (d.goods, d.mesh)

abbrev pub goods_of : PricePoint → ℕ
goods_of p = p.grid.goods

abbrev pub mesh_of : PricePoint → ℕ
mesh_of p = p.grid.mesh

-- The prices: the first entries of the point's table, as many as there are goods.
abbrev pub prices_of : PricePoint → List ℕ
prices_of p = take p.grid.goods p.prices

abbrev pub point_of : PricePoint → Priced
point_of p = record { goods = goods_of p; mesh = mesh_of p; prices = prices_of p }

-- Making a grid: 1 for goods out of range, then 2 for the mesh.
abbrev pub grid_for : ℕ → ℕ → Result (ℕ × ℕ) Told
grid_for g D = insist (fit_goods g) 1 (insist (fit_mesh g D) 2 (Ok (g, D)))

-- Making a price point: 1 and 2 as for a grid, then 3 for anything but g prices that add up to the mesh.
abbrev pub point_for : ℕ → ℕ → List ℕ → Result Priced Told
point_for g D x =
    insist (fit_goods g) 1 (insist (fit_mesh g D) 2 (insist (prices_add_up g D x) 3 (Ok (record { goods = g; mesh = D; prices = x }))))

-- g levels that fall from D.
abbrev pub levels_fit : ℕ → ℕ → List ℕ → Bool
levels_fit g D u = length u == g && (first u == D && falls u)

-- Making a price point from levels: refused as from prices, with 3 for anything but g levels that fall from the mesh.
abbrev pub point_at_levels : ℕ → ℕ → List ℕ → Result Priced Told
point_at_levels g D u =
    insist (fit_goods g) 1 (insist (fit_mesh g D) 2 (insist (levels_fit g D u) 3 (Ok (record { goods = g; mesh = D; prices = to_prices u }))))
