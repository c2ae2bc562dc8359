-- What a market means, and what its calls answer.
use Rattle.std.specs.Prelude.{◌≡◌, ℕ, ◌<◌, ◌≤◌, true, cond, List, length, take, ℤ, Ok, Result, ◌==◌}
use Rattle.mesh.specs.Points.{goods_of, prices_of}
use Rattle.mesh.specs.Range.{between}
use Rattle.mesh.specs.Refusals.{Told, insist}
use Rattle.mesh.specs.declared.point.PricePoint.{PricePoint}
use Rattle.labelling.specs.Labels.{Rule, Proper}
use Rattle.trade.specs.Trade.{Trader, demand, supply, excess, owned_in_all, market_label, Labels}
use Rattle.market.specs.Rows.{traders_in, all_fit}
use Rattle.market.specs.declared.rows.Numbers.{Numbers}
use Rattle.market.specs.declared.rows.Trader as row
use Rattle.market.specs.declared.market.Market.{Market}

-- The filled rows of the table of traders, and the traders in them.
abbrev pub rows_of : Market → List row.Trader
rows_of m = take m.numbers.filled m.numbers.traders

abbrev pub traders_of : Market → List Trader
traders_of m = traders_in m.numbers.goods (rows_of m)

-- How many goods it has.
abbrev pub goods_in : Market → ℕ
goods_in m = m.numbers.goods

-- Of good j at a point: what is demanded, what is supplied, and the excess, each times the weight sum.
abbrev pub demand_at : Market → PricePoint → ℕ → ℕ
demand_at m p j = demand (traders_of m) (prices_of p) j

abbrev pub supply_at : Market → PricePoint → ℕ → ℕ
supply_at m p j = supply m.numbers.sum (traders_of m) (prices_of p) j

abbrev pub excess_at : Market → PricePoint → ℕ → ℤ
excess_at m p j = excess m.numbers.sum (traders_of m) (prices_of p) j

-- The label of a price point; 0 where it has another number of goods.
abbrev pub market_rule : Market → Rule
market_rule m g D x = cond (g == goods_in m) (market_label g m.numbers.sum (traders_of m) x) 0

-- The excess of good j at a point: 11 for no good of the market, then 3 for a point with another number of goods.
abbrev pub excess_for : Market → ℕ → PricePoint → Result ℤ Told
excess_for m j p =
    insist (between 1 (goods_in m) j) 11
    (insist (goods_of p == goods_in m) 3 (Ok (excess_at m p j)))

-- What is owned in all of good j: 11 for no good of the market.
abbrev pub owned_for : Market → ℕ → Result ℕ Told
owned_for m j = insist (between 1 (goods_in m) j) 11 (Ok (owned_in_all (traders_of m) j))

-- At a point of as many goods, the label l is the smallest good that has a price and is not short; so it is proper.
pub record LabelledBy (m : Market) (p : PricePoint) (l : ℕ) : Type 0 where
  pub smallest : Labels (goods_of p) m.numbers.sum (traders_of m) (prices_of p) l
  pub proper : Proper (goods_of p) (prices_of p) l

-- Numbers of a market: in range, a name for each good, and every trader's weights add up.
abbrev pub MarketNumbers : Numbers → Type 0
MarketNumbers n =
    ((2 ≤ n.goods) × (n.goods ≤ 8)) × ((1 ≤ n.sum) × (n.sum ≤ 1000)) × ((1 ≤ n.filled) × (n.filled ≤ 16))
    × ((n.named ≡ n.goods) × (length n.names ≡ 8)) × (length n.traders ≡ 16)
    × (all_fit n.goods n.sum (traders_in n.goods (take n.filled n.traders)) ≡ true)

-- Somebody owns each good.
abbrev pub AllOwned : Market → Type 0
AllOwned m = (j : ℕ) → 1 ≤ j → j ≤ goods_in m → 0 < owned_in_all (traders_of m) j

-- Nobody owns good j, and it is the smallest such good.
pub record FirstUnowned (m : Market) (j : ℕ) : Type 0 where
  pub low : 1 ≤ j
  pub high : j ≤ goods_in m
  pub unowned : owned_in_all (traders_of m) j ≡ 0
  pub smallest : (i : ℕ) → 1 ≤ i → i < j → 0 < owned_in_all (traders_of m) i
