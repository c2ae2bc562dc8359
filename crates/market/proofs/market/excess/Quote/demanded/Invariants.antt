use Rattle.std.proofs.Common.{◌≡◌, ◌*◌, ◌≤◌, take}
use Rattle.trade.specs.Trade.{demand}
use Rattle.market.specs.Rows.{traders_in}
use Rattle.market.specs.Markets.{rows_of}
use Rattle.market.proofs.market.excess.Quote.demanded.Given as goal

-- What the traders so far demand, each a weight of two bytes times an income.
abbrev pub invariant-loop-trader : goal.invariant-loop-trader
invariant-loop-trader l =
    (l.sum ≡ demand (traders_in l.self.good.market.now.numbers.goods (take l.trader-index (rows_of l.self.good.market.now))) l.prices l.self.good.number)
    × (l.sum ≤ l.trader-index * 70366596710400)
