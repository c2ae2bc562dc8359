use Rattle.std.proofs.Common.{◌-◌, map}
use Rattle.std.specs.Fmt.{HasWritten, IsPlainFormatter, signed_decimal}
use Rattle.trade.specs.Trade.{goods_from}
use Rattle.market.specs.Markets.{excess_at}
use Rattle.lines.specs.Lines.{spaced}
use Rattle.lines.proofs.points.ExcessesDisplay.fmt.Given as goal

-- The excesses of the goods so far are written.
abbrev pub invariant-loop-good : goal.invariant-loop-good
invariant-loop-good g l =
    IsPlainFormatter l.initial.f
    → HasWritten g.W.Write.write_str_gives l.initial.f
    (spaced signed_decimal (map (excess_at l.self.market.now l.self.point.now) (goods_from 0 (l.good - 1)))) l.f
