use Rattle.std.proofs.Common.{◌-◌, length}
use Rattle.market.specs.Held.{Held}
use Rattle.market.proofs.reader.read.Given as goal

-- The numbers say what the bytes so far say.
abbrev pub invariant-loop-numbers : goal.invariant-loop-numbers
invariant-loop-numbers l = Held l.file l.at l.numbers

abbrev pub decreases-loop-numbers : goal.decreases-loop-numbers
decreases-loop-numbers l = length l.initial.file - l.at
