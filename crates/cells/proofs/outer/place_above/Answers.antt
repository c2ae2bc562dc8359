use Rattle.std.proofs.Common.{◌≡◌, ⊎_elim, arith}
use Rattle.std.proofs.lemmas.Bool.{cases_lt}
use Rattle.mesh.proofs.Levels.{price-is}
use Rattle.cells.proofs.outer.place_above.Goals as goal

pub loop-j-preserved : goal.loop-j-preserved
loop-j-preserved c = λ k h.
    ⊎_elim
    (λ before. c.loop-j.invariant k before)
    (λ at. let is : k ≡ c.loop-j.j = omega arith in rw is (omega (arith, price-is c.args.levels.now c.loop-j.j, c.price_at-price.ensures, c.if-price-before.false)))
    (cases_lt k c.loop-j.j)

pub returns-then-price-before : goal.returns-then-price-before
returns-then-price-before c =
    (c.loop-j-test.true, omega (arith, price-is c.args.levels.now c.loop-j.j, c.price_at-price.ensures, c.if-price-before.true), c.loop-j.invariant)

pub returns : goal.returns
returns c = λ k h. c.loop-j.invariant k (omega (arith, h, c.loop-j-test.false))
