use Rattle.std.proofs.Common.{◌≡◌, ℕ, ◌<◌, length, get_or, rules, arith}
use Rattle.tables.proofs.Made.{made, front}
use Rattle.mesh.specs.Prices.{to_prices}
use Rattle.mesh.proofs.Levels.{price-is, length-prices}
use Rattle.mesh.proofs.pricing.to_prices.Goals as goal

pub returns : goal.returns
returns c =
    let u = c.args.levels.now in
    let room = c.from_fn.ensures.items.long in
    let entries : (j : ℕ) → j < 8 → get_or c.from_fn.result j 0 ≡ get_or (to_prices u) j 0
    = λ j h. made _ (λ i. get_or (to_prices u) i 0) _ 8 (λ i y q h k. search (rules, price-is)) c.from_fn.result c.from_fn.ensures.items j 0 h in
    record {
      size = room;
      entries = entries;
      prices = λ few. front (to_prices u) c.from_fn.result (length u) 0 (length-prices u) (omega (arith, room)) (λ k h. entries k (omega arith));
    }
