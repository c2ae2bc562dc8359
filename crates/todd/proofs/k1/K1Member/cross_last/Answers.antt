use Rattle.todd.proofs.K1Crossing.{last-wall, last-moved}
use Rattle.todd.proofs.k1.K1Member.cross_last.Goals as goal

pub returns-in-Some-clause-crosses : goal.returns-in-Some-clause-crosses
returns-in-Some-clause-crosses c cell =
    last-wall c.args.grid.now c.args.cell.now c.goods-goods.result c.goods-goods.ensures c.stop_at.result c.stop_at.ensures cell c.in-Some.wall c.in-Some.is

pub returns-clause-crosses : goal.returns-clause-crosses
returns-clause-crosses c cell =
    last-moved c.args.grid.now c.args.cell.now c.goods-goods.result c.goods-goods.ensures c.stop_at.result c.stop_at.ensures cell
    c.shift_level.new.levels c.rotate_right.new.self c.in_default.is c.shift_level.ensures c.rotate_right.ensures.after
