-- The numbers of a market as they are read: which field is due, and what one more field makes of them.
use Rattle.std.specs.Prelude.{◌≡◌, ℕ, ◌+◌, true, cond, List, ◌++◌, length, take, replicate, ◌==◌, nat_lt, slice_set}
use Rattle.std.specs.List.{flat_map}
use Rattle.layout.specs.Layout.{two}
use Rattle.layout.specs.Faults.{Due, goods_due, name_due, sum_due, trader_due, nothing_due}
use Rattle.market.specs.Rows.{short}
use Rattle.market.specs.declared.rows.Numbers.{Numbers}
use Rattle.market.specs.declared.rows.Trader.{Trader}
use Rattle.market.specs.declared.rows.Span.{Span}

abbrev pub due_in : Numbers → Due
due_in n =
    cond (n.goods == 0) goods_due
    (cond (nat_lt n.named n.goods) name_due
    (cond (n.sum == 0) sum_due (cond (nat_lt n.filled 16) (trader_due n.goods n.sum) nothing_due)))

abbrev pub with_goods : Numbers → ℕ → Numbers
with_goods n g = record { goods = g; named = n.named; names = n.names; sum = n.sum; filled = n.filled; traders = n.traders }

abbrev pub with_name : Numbers → Span → Numbers
with_name n s = record { goods = n.goods; named = n.named + 1; names = slice_set n.names n.named s; sum = n.sum; filled = n.filled; traders = n.traders }

abbrev pub with_sum : Numbers → ℕ → Numbers
with_sum n S = record { goods = n.goods; named = n.named; names = n.names; sum = S; filled = n.filled; traders = n.traders }

abbrev pub with_trader : Numbers → Trader → Numbers
with_trader n t = record { goods = n.goods; named = n.named; names = n.names; sum = n.sum; filled = n.filled + 1; traders = slice_set n.traders n.filled t }

-- The body of a trader's field is what the trader owns of each of g goods, then how it weighs each, in numbers of two bytes.
pub record Written (body : List ℕ) (g : ℕ) (t : Trader) : Type 0 where
  pub owns_room : length t.owns ≡ 8
  pub weighs_room : length t.weighs ≡ 8
  pub bytes : body ≡ flat_map two (take g t.owns) ++ flat_map two (take g t.weighs)
  pub owns_short : short (take g t.owns) ≡ true
  pub weighs_short : short (take g t.weighs) ≡ true

-- Nothing said yet.
abbrev pub unsaid : Numbers
unsaid = record { goods = 0; named = 0; names = replicate 8 (record { at = 0; len = 0 }); sum = 0; filled = 0; traders = replicate 16 (record { owns = replicate 8 0; weighs = replicate 8 0 }) }
