use Rattle.std.proofs.Common.{◌<◌, arith}
use Rattle.std.proofs.lemmas.List.{get_or-take, length-take}
use Rattle.todd.proofs.Records.{corner-more}
use Rattle.todd.proofs.steps.corner_of.Goals as goal

pub loop-j-preserved : goal.loop-j-preserved
loop-j-preserved c holds =
    let d = c.args.grid.now in
    let s = c.args.cell.now in
    let here : c.loop-j.j-index < c.args.place = omega (arith, length-take c.args.place s.order) in
    corner-more d s holds c.loop-j.j-index (omega arith) _ (get_or-take c.args.place s.order c.loop-j.j-index 0 here) c.upward-up.result c.upward-up.ensures
    c.loop-j.levels _ (c.loop-j.invariant holds) c.shift_level.ensures
