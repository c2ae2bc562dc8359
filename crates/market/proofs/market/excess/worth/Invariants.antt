use Rattle.std.proofs.Common.{◌≡◌, ◌*◌, ◌≤◌, length, take, sum}
use Rattle.trade.specs.Trade.{dot}
use Rattle.market.proofs.market.excess.worth.Given as goal

-- The worth of the goods so far, each amount being of two bytes.
abbrev pub invariant-loop-price : goal.invariant-loop-price
invariant-loop-price l =
    (l.income ≡ dot (take (length l.yielded) l.prices) l.owned)
    × (l.income ≤ sum (take (length l.yielded) l.prices) * 65535)
