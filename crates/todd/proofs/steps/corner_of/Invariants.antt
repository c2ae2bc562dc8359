use Rattle.std.proofs.Common.{◌≡◌, take}
use Rattle.todd_laws.specs.Records.{Holds, corner_at}
use Rattle.todd.proofs.steps.corner_of.Given as goal

-- The levels are those of the corner at the place reached.
abbrev pub invariant-loop-j : goal.invariant-loop-j
invariant-loop-j l = Holds l.grid l.cell → take l.grid.goods l.levels ≡ corner_at l.grid l.cell l.j-index
