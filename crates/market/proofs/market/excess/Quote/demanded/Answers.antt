use Rattle.std.proofs.Common.{◌≡◌, ℕ, ◌≤◌, List, length, take, rules}
use Rattle.market.specs.Markets.{rows_of}
use Rattle.market.specs.declared.rows.Trader.{Trader}
use Rattle.market.proofs.Spent.{all_of, spent_more, spent_bound}
use Rattle.market.proofs.market.excess.Quote.demanded.Goals as goal

pub loop-trader-preserved : goal.loop-trader-preserved
loop-trader-preserved c =
    let q = c.args.self.now in
    let whole : (n : ℕ) (xs ys : List Trader) → xs ≡ ys → length xs ≤ n → take n xs ≡ ys = all_of in (
      spent_more _ _ _ _ _ _ _ (rows_of q.good.market.now) _ q.point.now (search rules) c.loop-trader-test.true c.prices-prices.ensures q.same_goods q.good.is_good.0
          q.good.is_good.1 c.loop-trader.invariant.0 c.from.ensures c.worth-income.ensures.value,
      search (rules, spent_bound),
    )
