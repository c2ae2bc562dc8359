use Rattle.std.proofs.Common.{sym}
use Rattle.mesh.proofs.PointLevels.{made-at-levels}
use Rattle.mesh.proofs.point.PricePoint.at_levels.Goals as goal

pub invariant_of-result-clause-adds_up : goal.invariant_of-result-clause-adds_up
invariant_of-result-clause-adds_up c =
    (made-at-levels c.in_ok-grid.grid c.args.levels.now c.to_prices-prices.result (sym c.if-not-fit.ensures) c.to_prices-prices.ensures.prices).0

pub returns-clause-back : goal.returns-clause-back
returns-clause-back c =
    (made-at-levels c.in_ok-grid.grid c.args.levels.now c.to_prices-prices.result (sym c.if-not-fit.ensures) c.to_prices-prices.ensures.prices).1
