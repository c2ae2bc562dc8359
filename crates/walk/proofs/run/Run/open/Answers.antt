use Rattle.std.proofs.Common.{Ok, sym, refl, arith}
use Rattle.mesh.specs.Points.{point_of}
use Rattle.walk.specs.Showing.{opening_of}
use Rattle.walk.proofs.OpenShown.{open-stands}
use Rattle.walk.proofs.run.Run.open.Goals as goal

pub returns : goal.returns
returns b c =
    let stands = open-stands _ (b.L.Labelling.rule c.args.labels.now) (opening_of c.args.opening)
    (b.met.T.Triangulation.lawful c.args.tri.now) (point_of c.in_ok-point.point) (sym c.in_ok-point.ensures) (Ok c.in_ok-state.state) _
    (c.in_ok-state.ensures (omega arith)) (omega arith) in
    record { answer = stands.0; came = stands.1; claim = stands.2; borrows = (refl, refl) }
