-- All that is spent on the goods, and all that there is of them, come to the same: S times the incomes. Assumes nothing.
--   demands-add, supplies-add    the two sums, without signs
--   markets-balance              they are the same
--   excesses-cancel              said of the excesses
use Rattle.std.proofs.Common.{◌≡◌, ℕ, zero, suc, ◌+◌, ◌*◌, List, [], ◌∷◌, map, length, ℤ, pos, ◌+ℤ◌, ◌-ℤ◌, fold, sum_by, sum, sym, ap, ◌∙◌, subst, mul_assoc, mul_comm, mul-add, arith}
use Rattle.std.specs.List.{AllByRecursion}
use Rattle.std.proofs.lemmas.List.Sums.{sum_by-cons}
use Rattle.std.proofs.lemmas.Int.{ints}
use Rattle.mesh.specs.Prices.{price}
use Rattle.trade.specs.Trade.{Trader, Fair, income, owned_in_all, demand, supply, goods_from, ExcessesCancel}
use Rattle.trade.proofs.Goods.{sum_over, sum_over-same, sum_over-none, sum_over-add, sum_over-times, sum_over-price, sum_over-dot}

-- One trader shares out a sum c by its weights, all of it.
shared : (g S c : ℕ) (t : Trader) → Fair g S t → sum_over g 0 (λ j. price t.weighs j * c) ≡ S * c
shared g S c t f =
    let all : sum_over g 0 (price t.weighs) ≡ S = subst (λ n. sum_over n 0 (price t.weighs) ≡ sum t.weighs) f.weighed (sum_over-price t.weighs) ∙ f.shares in
    sum_over-times (price t.weighs) c g 0 ∙ ap (λ n. n * c) all

-- What one trader owns of each good, at its price, is the trader's income.
owned-worth : (g S : ℕ) (x : List ℕ) (t : Trader) → length x ≡ g → Fair g S t → sum_over g 0 (λ j. price x j * price t.owns j) ≡ income x t
owned-worth g S x t e f = subst (λ n. sum_over n 0 (λ j. price x j * price t.owns j) ≡ income x t) e (sum_over-dot x t.owns (f.owned ∙ sym e))

-- One trader more has its income more.
one_more : (S : ℕ) (x : List ℕ) (t : Trader) (ts : List Trader) → S * sum_by (income x) (t ∷ ts) ≡ S * income x t + S * sum_by (income x) ts
one_more S x t ts = ap (λ n. S * n) (sum_by-cons (income x) t ts) ∙ mul-add S (income x t) (sum_by (income x) ts)

spread : (S p o w : ℕ) → S * p * (o + w) ≡ p * o * S + S * p * w
spread S p o w = mul-add (S * p) o w ∙ ap (λ n. n + S * p * w) (mul_assoc S p o ∙ mul_comm S (p * o))

-- And there is as much more of each good as it owns.
one-owner : (S : ℕ) (x : List ℕ) (t : Trader) (ts : List Trader) (j : ℕ) → supply S (t ∷ ts) x j ≡ price x j * price t.owns j * S + supply S ts x j
one-owner S x t ts j = ap (λ n. S * price x j * n) (sum_by-cons (λ u. price u.owns j) t ts) ∙ spread S (price x j) (price t.owns j) (owned_in_all ts j)

-- All that is spent.
pub demands-add : (g S : ℕ) (ts : List Trader) (x : List ℕ) → AllByRecursion (Fair g S) ts → sum_over g 0 (demand ts x) ≡ S * sum_by (income x) ts
demands-add g S [] x fair = sum_over-none g 0 ∙ omega arith
demands-add g S (t ∷ ts) x fair =
    let mine : ℕ → ℕ = λ j. price t.weighs j * income x t in
    let split = sum_over-same (demand (t ∷ ts) x) (λ j. mine j + demand ts x j) (λ i. sum_by-cons (λ u. price u.weighs (suc i) * income x u) t ts) g 0 in
    let parts = sum_over-add mine (demand ts x) g 0 in
    let one = shared g S (income x t) t fair.0 in
    let rest = demands-add g S ts x fair.1 in
    split ∙ parts ∙ omega (arith, one, rest) ∙ sym (one_more S x t ts)

-- All that there is.
pub supplies-add : (g S : ℕ) (ts : List Trader) (x : List ℕ) → AllByRecursion (Fair g S) ts → length x ≡ g → sum_over g 0 (supply S ts x) ≡ S * sum_by (income x) ts
supplies-add g S [] x fair e = sum_over-same (supply S [] x) (λ j. 0) (λ i. omega arith) g 0 ∙ sum_over-none g 0 ∙ omega arith
supplies-add g S (t ∷ ts) x fair e =
    let mine : ℕ → ℕ = λ j. price x j * price t.owns j in
    let split = sum_over-same (supply S (t ∷ ts) x) (λ j. mine j * S + supply S ts x j) (λ i. one-owner S x t ts (suc i)) g 0 in
    let parts = sum_over-add (λ j. mine j * S) (supply S ts x) g 0 in
    let one : sum_over g 0 (λ j. mine j * S) ≡ S * income x t = sum_over-times mine S g 0 ∙ ap (λ n. n * S) (owned-worth g S x t e fair.0) ∙ mul_comm (income x t) S in
    let rest = supplies-add g S ts x fair.1 e in
    split ∙ parts ∙ omega (arith, one, rest) ∙ sym (one_more S x t ts)

-- As much is spent in all as there is to buy.
pub markets-balance : (g S : ℕ) (ts : List Trader) (x : List ℕ) → AllByRecursion (Fair g S) ts → length x ≡ g → sum_over g 0 (demand ts x) ≡ sum_over g 0 (supply S ts x)
markets-balance g S ts x fair e = demands-add g S ts x fair ∙ sym (supplies-add g S ts x fair e)

-- Differences added one by one are the difference of the sums.
differences : (a b : ℕ → ℕ) (n j : ℕ) (z : ℤ) → fold ◌+ℤ◌ z (map (λ i. pos (a i) -ℤ pos (b i)) (goods_from j n)) ≡ z +ℤ (pos (sum_over n j a) -ℤ pos (sum_over n j b))
differences a b zero j z = omega (arith, ints)
differences a b (suc n) j z = differences a b n (suc j) (z +ℤ (pos (a (suc j)) -ℤ pos (b (suc j)))) ∙ omega (arith, ints)

pub excesses-cancel : ExcessesCancel
excesses-cancel g S ts x fair e =
    let same = markets-balance g S ts x fair e in
    differences (demand ts x) (supply S ts x) g 0 (pos 0) ∙ omega (arith, ints)
