use Rattle.std.proofs.Common.{take}
use lib.Utf8.{encodes}
use Rattle.std.specs.Fmt.{HasWritten, IsPlainFormatter}
use Rattle.lines.proofs.heads.LettersDisplay.fmt.Given as goal

-- The bytes so far are written.
abbrev pub invariant-loop-b : goal.invariant-loop-b
invariant-loop-b g l = IsPlainFormatter l.initial.f → HasWritten g.W.Write.write_str_gives l.initial.f (encodes (take l.b-index l.self.0.now)) l.f
