use Rattle.std.proofs.Common.{◌≡◌}
use Rattle.todd_laws.specs.Steps.{level}
use Rattle.todd_laws.specs.Records.{Holds, corner_at}
use Rattle.todd.proofs.steps.level_of.Given as goal

-- The level is that of the corner at the place reached.
abbrev pub invariant-loop-k : goal.invariant-loop-k
invariant-loop-k l = Holds l.grid l.cell → l.x ≡ level (corner_at l.grid l.cell l.k-index) l.j
