use Rattle.std.proofs.Common.{◌-◌, ap, ◌∙◌}
use Rattle.todd.proofs.Starting.{start-down, levels-room}
use Rattle.todd.proofs.start.start_down.Goals as goal

pub returns : goal.returns
returns c =
    let p = c.args.point.now in
    start-down p c.levels.result c.raised.result c.falling.result c.levels.ensures.value (levels-room p c.levels.result c.levels.ensures.sums)
    c.raised.ensures c.falling.ensures.size (λ k h. c.falling.ensures.entries k h ∙ ap (λ n. n - k) c.goods.ensures)
