-- The label of a price point: it exists, and there is one. Assumes nothing.
--   excess-sign             an excess is at most 0 just where the demand is at most the supply
--   clears-is, -yes, -no    the test for a label without signs, and what it tells
--   label-exists, label-determined    the two laws
use Rattle.std.proofs.Common.{◌≡◌, ℕ, ◌+◌, ◌*◌, ◌<◌, ◌≤◌, true, false, ◌&&◌, ltb, leb, List, length, pos, ◌-ℤ◌, ◌≤ℤ◌, ◌<ℤ◌, sum, sym, ap, ◌∙◌, subst, ⊎_elim, arith}
use lib.Signed.{le_z, clash_ℤ}
use Rattle.std.specs.List.{AllByRecursion}
use Rattle.std.proofs.lemmas.Int.{ints}
use Rattle.std.proofs.lemmas.Bool.Decides.{nat_tests}
use Rattle.std.proofs.lemmas.Bool.{ltb-true, ltb-false, leb-true, leb-false, and_parts, and_cases, cases_lt, cases_order}
use Rattle.mesh.specs.Prices.{price}
use Rattle.trade.specs.Trade.{Trader, Fair, demand, supply, excess, clears, market_label, Labels, owned_in_all, LabelExists, LabelDetermined}
use Rattle.trade.proofs.Goods.{sum_over, sum_over-lt, sum_over-some, sum_over-price}
use Rattle.trade.proofs.Walras.{markets-balance}
use Rattle.trade.proofs.Search.{Found, Fails, first-cases}

sign : (a b : ℕ) → le_z (pos a -ℤ pos b) (pos 0) ≡ leb a b
sign a b = grind (arith, ints, nat_tests)

pub excess-sign : (S : ℕ) (ts : List Trader) (x : List ℕ) (j : ℕ) → le_z (excess S ts x j) (pos 0) ≡ leb (demand ts x j) (supply S ts x j)
excess-sign S ts x j = sign (demand ts x j) (supply S ts x j)

-- The test for a label, without signs.
pub clears-is : (S : ℕ) (ts : List Trader) (x : List ℕ) (j : ℕ) → clears S ts x j ≡ (ltb 0 (price x j) && leb (demand ts x j) (supply S ts x j))
clears-is S ts x j = ap (λ b. ltb 0 (price x j) && b) (excess-sign S ts x j)

-- A good that clears has a price and is not short.
pub clears-yes : (S : ℕ) (ts : List Trader) (x : List ℕ) (j : ℕ) → clears S ts x j ≡ true → (0 < price x j) × (demand ts x j ≤ supply S ts x j)
clears-yes S ts x j passes =
    let parts = and_parts (ltb 0 (price x j)) (le_z (excess S ts x j) (pos 0)) passes in
    (ltb-true 0 (price x j) parts.0, leb-true (demand ts x j) (supply S ts x j) (sym (excess-sign S ts x j) ∙ parts.1))

-- A good that does not clear is short, if it has a price.
pub clears-no : (S : ℕ) (ts : List Trader) (x : List ℕ) (j : ℕ) → clears S ts x j ≡ false → 0 < price x j → supply S ts x j < demand ts x j
clears-no S ts x j fails priced =
    ⊎_elim
    (λ free. absurd (omega (arith, ltb-false 0 (price x j) free)))
    (λ much. leb-false (demand ts x j) (supply S ts x j) (sym (excess-sign S ts x j) ∙ much))
    (and_cases (ltb 0 (price x j)) (le_z (excess S ts x j) (pos 0)) fails)

-- Of a good without a price nothing is supplied.
free-supply : (S : ℕ) (ts : List Trader) (x : List ℕ) (j : ℕ) → price x j ≡ 0 → supply S ts x j ≡ 0
free-supply S ts x j free = ap (λ p. S * p * owned_in_all ts j) free ∙ omega arith

-- The two signs of an excess.
not_short : (a b : ℕ) → a ≤ b → (pos a -ℤ pos b) ≤ℤ pos 0
not_short a b h = omega (arith, ints)

is-short : (a b : ℕ) → b < a → pos 0 <ℤ (pos a -ℤ pos b)
is-short a b h = omega (arith, ints)

-- A good that does not clear is not in surplus, with a price or without.
no-surplus : (S : ℕ) (ts : List Trader) (x : List ℕ) (j : ℕ) → clears S ts x j ≡ false → supply S ts x j ≤ demand ts x j
no-surplus S ts x j fails =
    ⊎_elim
    (λ priced. omega (arith, clears-no S ts x j fails priced))
    (λ free. omega (arith, free-supply S ts x j (omega (arith, free))))
    (cases_lt 0 (price x j))

-- Some good clears, else more would be spent than there is.
some-clears : (g S : ℕ) (ts : List Trader) (x : List ℕ) → AllByRecursion (Fair g S) ts → length x ≡ g → 0 < sum x → Fails g 0 (clears S ts x) → ⊥
some-clears g S ts x fair e some fails =
    let same = markets-balance g S ts x fair e in
    let prices : sum_over g 0 (price x) ≡ sum x = subst (λ n. sum_over n 0 (price x) ≡ sum x) e (sum_over-price x) in
    let k = sum_over-some (price x) g 0 (rw prices some) in
    let short = clears-no S ts x k.0 (fails k.0 k.1 k.2) k.3 in
    let others : (i : ℕ) → 0 < i → i ≤ 0 + g → supply S ts x i ≤ demand ts x i = λ i low high. no-surplus S ts x i (fails i low high) in
    let less = sum_over-lt (supply S ts x) (demand ts x) g 0 k.0 k.1 k.2 short others in
    omega arith

-- What the search finds is the label.
found-labels : (g S : ℕ) (ts : List Trader) (x : List ℕ) (l : ℕ) → Found g 0 (clears S ts x) l → Labels g S ts x l
found-labels g S ts x l f =
    let told = clears-yes S ts x l f.passes in
    record {
      low = f.after;
      high = omega (arith, f.within);
      priced = told.0;
      enough = not_short (demand ts x l) (supply S ts x l) told.1;
      smallest = λ i low high priced. is-short (demand ts x i) (supply S ts x i) (clears-no S ts x i (f.before i low high) priced);
    }

pub label-exists : LabelExists
label-exists g S ts x fair e some =
    ⊎_elim
    (λ f. found-labels g S ts x (market_label g S ts x) f)
    (λ none. absurd (some-clears g S ts x fair e some none.1))
    (first-cases (clears S ts x) g 0)

-- Of two labels neither is the smaller one.
no-smaller : (g S : ℕ) (ts : List Trader) (x : List ℕ) (l m : ℕ) → Labels g S ts x l → Labels g S ts x m → l < m → ⊥
no-smaller g S ts x l m a b less = clash_ℤ (b.smallest l a.low less a.priced) a.enough

pub label-determined : LabelDetermined
label-determined g S ts x l m a b =
    ⊎_elim
    (λ same. same)
    (λ apart. absurd (⊎_elim (no-smaller g S ts x l m a b) (no-smaller g S ts x m l b a) apart))
    (cases_order l m)
