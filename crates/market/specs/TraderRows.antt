-- What the test of the traders of a market tells.
use Rattle.std.specs.Prelude.{◌≡◌, ℕ, true, List, [], ◌∷◌}
use Rattle.std.specs.List.{AllByRecursion}
use Rattle.std.proofs.lemmas.Bool.{and_parts, eqb-true}
use Rattle.trade.specs.Trade.{Trader, Fair}
use Rattle.market.specs.Rows.{fits, all_fit}

pub fits-fair : (g S : ℕ) (t : Trader) → fits g S t ≡ true → Fair g S t
fits-fair g S t e =
    let parts = and_parts _ _ e in
    let sizes = and_parts _ _ parts.0 in
    let rest = and_parts _ _ parts.1 in
    record { owned = eqb-true _ _ sizes.0; weighed = eqb-true _ _ sizes.1; shares = eqb-true _ _ rest.0 }

pub all_fair : (g S : ℕ) (ts : List Trader) → all_fit g S ts ≡ true → AllByRecursion (Fair g S) ts
all_fair g S [] e = tt
all_fair g S (t ∷ ts) e = let parts = and_parts _ _ e in (fits-fair g S t parts.0, all_fair g S ts parts.1)
