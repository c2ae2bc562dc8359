use Rattle.todd.proofs.Crossing.{middle_wall}
use Rattle.todd.proofs.steps.cross_middle.Goals as goal

pub returns-in-Some-clause-crosses : goal.returns-in-Some-clause-crosses
returns-in-Some-clause-crosses c holds =
    middle_wall c.args.grid.now c.args.cell.now c.args.place c.requires.0 c.requires.1 c.upward-up.result c.upward-up.ensures c.stop_at.result
    c.stop_at.ensures holds c.in-Some.wall c.in-Some.is
