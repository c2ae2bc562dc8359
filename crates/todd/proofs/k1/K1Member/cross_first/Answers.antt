use Rattle.todd.proofs.K1Crossing.{first-wall, first-moved}
use Rattle.todd.proofs.k1.K1Member.cross_first.Goals as goal

pub returns-in-Some-clause-crosses : goal.returns-in-Some-clause-crosses
returns-in-Some-clause-crosses c cell =
    first-wall c.args.grid.now c.args.cell.now c.goods-goods.result c.goods-goods.ensures c.stop_at.result c.stop_at.ensures cell c.in-Some.wall c.in-Some.is

pub returns-clause-crosses : goal.returns-clause-crosses
returns-clause-crosses c cell =
    first-moved c.args.grid.now c.args.cell.now c.goods-goods.result c.goods-goods.ensures c.stop_at.result c.stop_at.ensures cell
    c.shift_level.new.levels c.rotate_left.new.self c.in_default.is c.shift_level.ensures c.rotate_left.ensures.after
