use Rattle.std.proofs.Common.{◌*◌, min, ◌∙◌, rules, arith}
use Rattle.tables.proofs.Made.{mapped}
use Rattle.state.proofs.Pricing.{scaled-are}
use Rattle.state.proofs.corner.scaled.Goals as goal

pub returns : goal.returns
returns c = λ g few fit.
    scaled-are c.args.factor g c.args.prices.now c.map.result (omega (arith, c.told-prices)) (omega (arith, c.map.ensures.items.long))
    (λ k h.
    mapped _ (λ x. min (x * c.args.factor) 4294967295) _ (λ x y q k. search rules) c.args.prices.now c.map.result 8 c.map.ensures.items k 0 0 (omega arith)
    ∙ omega (arith, fit k h))
