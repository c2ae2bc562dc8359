use Rattle.std.proofs.Common.{◌≡◌, ◌+◌, ◌-◌, ◌<◌, length, get_or, drop, sum, sym, refl, ap, ◌∙◌, ⊎_elim, arith}
use Rattle.std.proofs.lemmas.Bool.{cases_lt}
use Rattle.std.proofs.lemmas.List.{length-set, get_or-set_same, get_or-set_other}
use Rattle.mesh.specs.Points.{goods_of, prices_of}
use Rattle.mesh.proofs.PointLevels.{levels-known, sum-more, sum-last, levels-small}
use Rattle.mesh.proofs.PointPrices.{mesh-small}
use Rattle.mesh.proofs.point.PricePoint.levels.Goals as goal

pub loop-j-init : goal.loop-j-init
loop-j-init c = (c.args.self.now.room, λ k h. refl, λ k h i. sym (sum-last c.args.self.now k (omega (arith, c.goods-j.ensures))))

-- The price before a level, and that level.
together : (c : goal.In-loop-j) → get_or c.loop-j.levels ((c.loop-j.j - 1) - 1) 0 + get_or c.loop-j.levels (c.loop-j.j - 1) 0
    ≡ sum (drop ((c.loop-j.j - 1) - 1) (prices_of c.args.self.now))
together c =
    let more = c.loop-j-test.true in
    let within : c.loop-j.j - 1 < goods_of c.args.self.now = omega (arith, c.loop-j.auto.j, c.goods-j.ensures) in
    let next : ((c.loop-j.j - 1) - 1) + 1 ≡ c.loop-j.j - 1 = omega arith in
    let price = c.loop-j.invariant.1 ((c.loop-j.j - 1) - 1) (omega arith) in
    let level = c.loop-j.invariant.2 (c.loop-j.j - 1) (omega arith) within in
    let step = sum-more c.args.self.now ((c.loop-j.j - 1) - 1) (omega arith) in
    rw (price, level) (sym (step ∙ ap (λ n. get_or c.args.self.now.prices ((c.loop-j.j - 1) - 1) 0 + sum (drop n (prices_of c.args.self.now))) next))

pub overflow_add-levels : goal.overflow_add-levels
overflow_add-levels c =
    omega (arith, together c, levels-small c.args.self.now ((c.loop-j.j - 1) - 1), mesh-small c.args.self.now)

pub loop-j-preserved : goal.loop-j-preserved
loop-j-preserved c =
    let at = (c.loop-j.j - 1) - 1 in
    let more = c.loop-j-test.true in
    let room : at < length c.loop-j.levels = omega (arith, c.loop-j.invariant.0, c.loop-j.auto.j, c.goods-j.ensures, c.args.self.now.grid.goods_fit.1) in (
      length-set c.loop-j.levels at _ ∙ c.loop-j.invariant.0,
      λ k h. get_or-set_other c.loop-j.levels at k _ 0 (λ e. absurd (omega arith)) ∙ c.loop-j.invariant.1 k (omega arith),
      λ k h i. ⊎_elim
          (λ later. get_or-set_other c.loop-j.levels at k _ 0 (λ e. absurd (omega arith)) ∙ c.loop-j.invariant.2 k (omega arith) i)
          (λ here. let is : k ≡ at = omega arith in rw is (get_or-set_same c.loop-j.levels at _ 0 room ∙ together c))
          (cases_lt at k),
    )

pub returns : goal.returns
returns c =
    let known = levels-known c.args.self.now c.loop-j.levels c.loop-j.invariant.0 (λ j h. c.loop-j.invariant.2 j (omega (arith, c.loop-j-test.false)) h) in
    record { value = known.0; sums = λ j h. c.loop-j.invariant.2 j (omega (arith, c.loop-j-test.false)) h; back = known.1; fall = known.2; top = known.3 }
