use Rattle.std.proofs.Common.{length, refl, rules}
use Rattle.mesh.specs.Step.{NonePriced, LastPriced}
use Rattle.mesh.proofs.PointListing.{before-last, last-point, last-before, step-adds-up, step-point}
use Rattle.mesh.proofs.point.PricePoint.next.Goals as goal

pub returns-in_err-i : goal.returns-in_err-i
returns-in_err-i c =
    let p = c.args.self.now in
    let none : NonePriced (before-last p) (length (before-last p)) = search rules in rw c.from_residual.ensures (last-point p none)

pub invariant_of-result-clause-adds_up : goal.invariant_of-result-clause-adds_up
invariant_of-result-clause-adds_up c =
    let p = c.args.self.now in
    let found : LastPriced (before-last p) (length (before-last p)) c.in_ok-i.i = search rules in
    step-adds-up p c.in_ok-i.i (last-before p c.in_ok-i.i found) _ c.step-prices.ensures

pub returns : goal.returns
returns c =
    let p = c.args.self.now in
    let found : LastPriced (before-last p) (length (before-last p)) c.in_ok-i.i = search rules in
    (refl, step-point p c.in_ok-i.i (last-before p c.in_ok-i.i found) _ c.step-prices.ensures)
