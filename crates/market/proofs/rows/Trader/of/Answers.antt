use Rattle.std.proofs.Common.{◌≤◌, ℕ, get_or, arith, rules}
use Rattle.market.proofs.Words.{written}
use Rattle.market.proofs.rows.Trader.of.Goals as goal

pub returns : goal.returns
returns c =
    let bytes : (i : ℕ) → get_or c.args.body.now i 0 ≤ 255 = λ i. omega (arith, c.type_inv.body i) in
    search (rules, written, bytes)
