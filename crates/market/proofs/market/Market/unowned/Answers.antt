use Rattle.std.proofs.Common.{rules, ◌≡◌, ℕ, ◌+◌, ◌<◌, ◌≤◌, Option, Some, None, arith}
use Rattle.std.specs.Option.{MatchOption}
use Rattle.std.proofs.lemmas.Iterator.{first_from_Range}
use Rattle.trade.specs.Trade.{owned_in_all}
use Rattle.market.specs.Markets.{traders_of, AllOwned, FirstUnowned}
use Rattle.market.specs.declared.market.Market.{Market}
use Rattle.market.proofs.market.Market.unowned.Goals as goal

-- What the search among the goods tells.
first-unowned : (m : Market) (start end : ℕ) (r : Option ℕ) → start ≡ 1 → end ≡ m.numbers.goods + 1
    → MatchOption r ((k : ℕ) → start ≤ k → k < end → 1 ≤ k → k ≤ m.numbers.goods → 0 < owned_in_all (traders_of m) k)
    (λ i. (start ≤ i) × (i < end) × (i ≤ m.numbers.goods → owned_in_all (traders_of m) i ≡ 0) × ((k : ℕ) → start ≤ k → k < i → 1 ≤ k → k ≤ m.numbers.goods → 0 < owned_in_all (traders_of m) k))
    → MatchOption r (AllOwned m) (λ j. FirstUnowned m j)
first-unowned m start end None one past all = λ j low high. all j (omega (arith, one, low)) (omega (arith, past, high)) low high
first-unowned m start end (Some j) one past found = record {
  low = omega (arith, one, found.0);
  high = omega (arith, past, found.1);
  unowned = found.2 (omega (arith, past, found.1));
  smallest = λ i low less. found.3 i (omega (arith, one, low)) less low (omega (arith, past, less, found.1));
}

pub returns : goal.returns
returns c =
    let m = c.args.self.now in
    first-unowned m _ _ c.find.result (omega arith) (omega arith)
    (first_from_Range _ _ _ _ (λ j. j ≤ m.numbers.goods → owned_in_all (traders_of m) j ≡ 0) (λ j. 1 ≤ j → j ≤ m.numbers.goods → 0 < owned_in_all (traders_of m) j)
    c.find.ensures.ran (λ x q called. search rules) (λ x q called. (search rules, search rules)))
