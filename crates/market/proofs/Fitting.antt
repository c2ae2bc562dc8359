-- The tests of a trader, against what they test.
use Rattle.std.proofs.Common.{◌≡◌, ℕ, ◌<◌, true, List, [], ◌∷◌, refl}
use Rattle.std.specs.List.{AllByRecursion}
use Rattle.std.proofs.lemmas.Bool.{and_parts, and_from, ltb-true, lt-ltb, eq-eqb}
use Rattle.trade.specs.Trade.{Trader}
use Rattle.layout.specs.Layout.{TraderFits}
use Rattle.market.specs.Rows.{short, fits, all_fit}

pub all_short : (ns : List ℕ) → short ns ≡ true → AllByRecursion (λ n. n < 65536) ns
all_short [] h = tt
all_short (n ∷ ns) h = let parts = and_parts _ _ h in (ltb-true n 65536 parts.0, all_short ns parts.1)

short-all : (ns : List ℕ) → AllByRecursion (λ n. n < 65536) ns → short ns ≡ true
short-all [] h = refl
short-all (n ∷ ns) h = and_from _ _ (lt-ltb n 65536 h.0) (short-all ns h.1)

pub fit_all : (g S : ℕ) (ts : List Trader) → AllByRecursion (TraderFits g S) ts → all_fit g S ts ≡ true
fit_all g S [] h = refl
fit_all g S (t ∷ ts) h = and_from _ _ (fit t h.0) (fit_all g S ts h.1)
  where
    fit : (t : Trader) → TraderFits g S t → fits g S t ≡ true
    fit t h =
        and_from _ _ (and_from _ _ (eq-eqb _ _ h.fair.owned) (eq-eqb _ _ h.fair.weighed))
        (and_from _ _ (eq-eqb _ _ h.fair.shares) (and_from _ _ (short-all t.owns h.owned) (short-all t.weighs h.weighed)))
