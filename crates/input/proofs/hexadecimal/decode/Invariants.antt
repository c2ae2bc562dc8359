use Rattle.std.proofs.Common.{◌≡◌, take, map}
use Rattle.input.specs.Hexadecimal.{byte_of}
use Rattle.input.proofs.hexadecimal.decode.Given as goal

-- The bytes of the pairs before this one are written.
abbrev pub invariant-loop-i : goal.invariant-loop-i
invariant-loop-i l = take l.i l.room ≡ map byte_of (take l.i l.pair-items)
