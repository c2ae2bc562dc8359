use Rattle.std.proofs.Common.{◌≡◌, ℕ, ◌-◌, ◌*◌, ◌<◌, List, length, get_or, take, drop, ap, ◌∙◌, arith, rules}
use Rattle.std.proofs.lemmas.List.{length_push}
use Rattle.std.proofs.lemmas.Slice.Zip.{zip_turn}
use Rattle.trade.proofs.Dots.{dot-more}
use Rattle.market.proofs.Worth.{worth-bound, from_first}
use Rattle.market.proofs.market.excess.worth.Goals as goal

pub loop-price-preserved : goal.loop-price-preserved
loop-price-preserved c =
    let x = c.args.prices.now in
    let k = length c.loop-price.yielded in
    let whole : (xs : List ℕ) (n : ℕ) → n ≡ 0 → take (length xs - n) (drop n xs) ≡ xs = from_first in
    let here = zip_turn x c.args.owned.now c.loop-price.yielded _ c.loop-price.price-iterator c.next.new.self c.next.result (search rules) (search rules) c.loop-price.yielded_by (c.in-Some.price, c.in-Some.amount) c.in-Some.is c.next.ensures.steps in
    let price : c.from.result ≡ get_or x k 0 = c.from.ensures ∙ here.2 0 in
    let amount : c.from-in-loop-price.result ≡ get_or c.args.owned.now k 0 = c.from-in-loop-price.ensures ∙ here.3 0 in
    let small : c.from-in-loop-price.result < 65536 = search rules in
    let step = dot-more x c.args.owned.now k here.0 here.1 in
    let bound = worth-bound 65535 x k c.loop-price.income c.from-in-loop-price.result here.0 (omega arith) c.loop-price.invariant.1 in
    let paid : c.from.result * c.from-in-loop-price.result ≡ get_or x k 0 * c.from-in-loop-price.result = ap (λ n. n * c.from-in-loop-price.result) price in
    let product : get_or x k 0 * c.from-in-loop-price.result ≡ get_or x k 0 * get_or c.args.owned.now k 0 = ap (λ n. get_or x k 0 * n) amount in
    rw length_push (omega arith, omega arith)
