use Rattle.std.proofs.Common.{◌≡◌, ◌*◌, ◌≤◌, take}
use Rattle.trade.specs.Trade.{owned_in_all}
use Rattle.market.specs.Rows.{traders_in}
use Rattle.market.specs.Markets.{rows_of}
use Rattle.market.proofs.market.good.Good.owned.Given as goal

-- What the traders so far own, each an amount of two bytes.
abbrev pub invariant-loop-owner : goal.invariant-loop-owner
invariant-loop-owner l =
    (l.sum ≡ owned_in_all (traders_in l.self.market.now.numbers.goods (take l.owner-index (rows_of l.self.market.now))) l.self.number)
    × (l.sum ≤ l.owner-index * 65535)
