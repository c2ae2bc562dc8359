use Rattle.std.proofs.Common.{◌≡◌, ◌-◌, ◌<◌, true, false, length, get_or, sym, ap, ◌∙◌, arith}
use Rattle.std.proofs.lemmas.List.{get_or-take, get_or_default, length-take}
use Rattle.todd_laws.specs.Records.{corner_at}
use Rattle.todd.proofs.Records.{level-in-turn, level-stays}
use Rattle.todd.proofs.steps.level_of.Goals as goal

pub returns-then-from-j : goal.returns-then-from-j
returns-then-from-j c holds =
    let d = c.args.grid.now in
    let s = c.args.cell.now in
    let j = c.max-j.result in
    let k = c.loop-k.k-index in
    let here : k < c.args.place = omega (arith, length-take c.args.place s.order, c.loop-k-test.true) in
    let is : get_or s.order k 0 ≡ j = sym (c.from.ensures ∙ get_or-take c.args.place s.order k 0 here) ∙ c.if-from-j.true in
    let at : c.index-i.result ≡ j - 1 = c.index-i.ensures in
    let low : c.index-i.result < d.goods = omega (arith, c.if-i-goods.false, c.goods.ensures) in
    let long : c.index-i.result < length s.ups = omega (arith, low, holds.directions, length-take d.goods s.ups) in
    let way : get_or s.ups c.index-i.result false ≡ get_or s.ups (j - 1) true
    = get_or_default s.ups c.index-i.result false true long ∙ ap (λ n. get_or s.ups n true) at
    in
    let base = ap (λ n. get_or s.base n 0) at in
    level-in-turn d s holds k j c.args.place _ _ _ is here c.requires way c.stepped.ensures base
    ∙ ap (λ i. get_or (corner_at d s c.args.place) i 0) (omega (arith, c.max-j.ensures))

pub loop-k-preserved : goal.loop-k-preserved
loop-k-preserved c holds =
    let d = c.args.grid.now in
    let s = c.args.cell.now in
    let k = c.loop-k.k-index in
    let here : k < c.args.place = omega (arith, length-take c.args.place s.order, c.loop-k-test.true) in
    let is : c.from.result ≡ get_or s.order k 0 = c.from.ensures ∙ get_or-take c.args.place s.order k 0 here in
    c.loop-k.invariant holds
    ∙ level-stays d s holds k c.max-j.result (omega (arith, here, c.requires)) (omega (arith, c.max-j.ensures)) (λ e. c.if-from-j.false (is ∙ e))
