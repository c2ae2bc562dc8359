use Rattle.todd.proofs.J1Crossing.{first-moved}
use Rattle.todd.proofs.j1.J1Member.cross_first.Goals as goal

pub returns-clause-crosses : goal.returns-clause-crosses
returns-clause-crosses c cell =
    first-moved c.args.grid.now c.args.cell.now c.upward-up.result c.stop_at.result c.upward-up.ensures c.stop_at.ensures cell
    c.shift_level.new.levels c.shift_level-2.new.levels c.turn.new.cell c.in_default.is c.shift_level.ensures c.shift_level-2.ensures c.turn.ensures
