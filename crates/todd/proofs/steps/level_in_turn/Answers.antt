use Rattle.std.proofs.Common.{◌-◌, get_or, refl, ap, ◌∙◌}
use Rattle.todd.proofs.Records.{level-waits, level-in-turn}
use Rattle.todd.proofs.steps.level_in_turn.Goals as goal

pub returns-then-n-place : goal.returns-then-n-place
returns-then-n-place c holds =
    let s = c.args.cell.now in
    let base = c.item-x.ensures ∙ ap (λ j. get_or s.base (j - 1) 0) c.from.ensures in
    level-in-turn c.args.grid.now s holds c.args.n _ c.args.place c.item-x.result _ c.upward.result refl c.if-n-place.true c.requires.0 c.upward.ensures c.stepped.ensures base

pub returns-else-n-place : goal.returns-else-n-place
returns-else-n-place c holds =
    let s = c.args.cell.now in
    c.item-x.ensures
    ∙ ap (λ j. get_or s.base (j - 1) 0) c.from.ensures
    ∙ level-waits c.args.grid.now s holds c.args.n _ c.args.place refl c.requires.1 c.if-n-place.false
