use Rattle.std.proofs.Common.{take, decimal}
use Rattle.std.specs.Fmt.{HasWritten, IsPlainFormatter}
use Rattle.lines.specs.Lines.{spaced}
use Rattle.lines.proofs.spaced.SpacedDisplay.fmt.Given as goal

-- The numbers so far are written.
abbrev pub invariant-loop-number : goal.invariant-loop-number
invariant-loop-number g l =
    IsPlainFormatter l.initial.f → HasWritten g.W.Write.write_str_gives l.initial.f (spaced decimal (take l.number-index l.self.0.now)) l.f
