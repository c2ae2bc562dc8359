use Rattle.std.proofs.Common.{◌≡◌, map, reverse, take}
use Rattle.walk.specs.Playing.{call_of, said_of}
use Rattle.walk.specs.Showing.{opening_of}
use Rattle.walk.proofs.InPlay.{InPlay}
use Rattle.walk.proofs.play.play.Given as goal

-- The calls so far were made, on the run that was opened.
abbrev pub invariant-loop-call : goal.invariant-loop-call
invariant-loop-call b l =
    InPlay (b.T.Triangulation.meaning l.tri) (b.L.Labelling.rule l.labels) (opening_of l.opening)
    (reverse (map call_of (take l.call-index l.calls))) (said_of l.opening.goods l.last) l.run.state
    × (l.run.tri.now ≡ l.tri) × (l.run.labels.now ≡ l.labels)
