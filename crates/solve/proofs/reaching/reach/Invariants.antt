use Rattle.std.proofs.Common.{◌≡◌}
use Rattle.solve.proofs.Turns.{Stepped}
use Rattle.solve.proofs.reaching.reach.Given as goal

-- As many steps as the loop counted were made and moved, on the same triangulation and labelling.
abbrev pub invariant-loop-made : goal.invariant-loop-made
invariant-loop-made b l =
    Stepped (b.T.Triangulation.meaning l.initial.run.tri.now) (b.L.Labelling.rule l.initial.run.labels.now) l.made l.initial.run.state l.run.state
    × (l.run.tri.now ≡ l.initial.run.tri.now) × (l.run.labels.now ≡ l.initial.run.labels.now)
