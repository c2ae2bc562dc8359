use Rattle.todd.proofs.J1Crossing.{last-wall, last-moved}
use Rattle.todd.proofs.j1.J1Member.cross_last.Goals as goal

pub returns-in-Some-clause-crosses : goal.returns-in-Some-clause-crosses
returns-in-Some-clause-crosses c cell =
    last-wall c.args.grid.now c.args.cell.now c.upward-up.result c.stop_at.result c.goods-goods.result c.goods-goods.ensures c.upward-up.ensures
    c.stop_at.ensures cell c.in-Some.wall c.in-Some.is

pub returns-clause-crosses : goal.returns-clause-crosses
returns-clause-crosses c cell =
    last-moved c.args.grid.now c.args.cell.now c.upward-up.result c.stop_at.result c.goods-goods.result c.goods-goods.ensures c.upward-up.ensures
    c.stop_at.ensures cell c.turn.new.cell c.in_default.is c.turn.ensures
