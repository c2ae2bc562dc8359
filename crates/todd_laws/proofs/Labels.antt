-- Outer labels: the first good that asks for more, in lists and in functions.
use Rattle.std.specs.Prelude.{◌≡◌, ℕ, zero, suc, ◌+◌, ◌-◌, ◌<◌, ◌≤◌, List, [], ◌∷◌, length, nat_lt, slice_index}
use Rattle.std.proofs.Common.{sym, ◌∙◌, ap, subst, inl, inr, arith}
use Rattle.std.proofs.lemmas.List.{get_or_past}
use Rattle.std.proofs.lemmas.Bool.Decides.{nat_tests}
use Rattle.std.proofs.lemmas.Bool.{cases_Bool, ltb-true, ltb-false, cond-true, cond-false}
use Rattle.mesh.specs.Prices.{to_prices}
use Rattle.mesh.proofs.Levels.{price-is}
use Rattle.cells.specs.Corners.{first_above, outer_label}
use Rattle.cells.proofs.OuterLabels.{above-at}
use Rattle.todd_laws.proofs.Family.{under, Label}

abbrev Above : List ℕ → List ℕ → ℕ → Type 0
Above c x j = (slice_index c j < slice_index x j) × ((i : ℕ) → i < j → slice_index x i ≤ slice_index c i)

above_low : (k : ℕ) (c x : List ℕ) (m : ℕ) → first_above k c x ≡ suc m → k ≤ m
above_low k [] x m e = absurd (omega arith)
above_low k (c ∷ cs) [] m e = absurd (omega arith)
above_low k (c ∷ cs) (x ∷ xs) m e = grind (arith, nat_tests, above_low (suc k) cs xs m)

is-above : (k : ℕ) (c x : List ℕ) (j : ℕ) → first_above k c x ≡ suc (k + j) → Above c x j
is-above k [] x j e = absurd (omega arith)
is-above k (c ∷ cs) [] j e = absurd (omega arith)
is-above k (c ∷ cs) (x ∷ xs) zero e = elim (cases_Bool (nat_lt c x)) [
  | inl t ↦ (ltb-true c x t, λ i q. absurd (omega arith))
  | inr f ↦ absurd (omega (arith, above_low (suc k) cs xs (k + 0) (sym (cond-false (nat_lt c x) (suc k) (first_above (suc k) cs xs) f) ∙ e)))
]
is-above k (c ∷ cs) (x ∷ xs) (suc j) e = elim (cases_Bool (nat_lt c x)) [
  | inl t ↦ absurd (omega (arith, cond-true (nat_lt c x) (suc k) (first_above (suc k) cs xs) t))
  | inr f ↦
      let q : suc (k + suc j) ≡ suc (suc k + j) = omega arith in
      rest (ltb-false c x f) (is-above (suc k) cs xs j (sym (cond-false (nat_lt c x) (suc k) (first_above (suc k) cs xs) f) ∙ e ∙ q))
]
  where
    low : x ≤ c → Above cs xs j → (i : ℕ) → i < suc j → slice_index (x ∷ xs) i ≤ slice_index (c ∷ cs) i
    low h a zero q = h
    low h a (suc i) q = a.1 i (omega arith)

    rest : x ≤ c → Above cs xs j → Above (c ∷ cs) (x ∷ xs) (suc j)
    rest h a = (a.0, low h a)

-- The levels of a list, as a function.
pub under-is : (g : ℕ) (v : List ℕ) (u : ℕ → ℕ) → length v ≡ g → ((j : ℕ) → j < g → slice_index v j ≡ u j) → (j : ℕ) → under g u j ≡ slice_index v j
under-is g v u size e j = grind (arith, nat_tests, e j, get_or_past v j 0)

module _ (g : ℕ) (c v : List ℕ) (u : ℕ → ℕ) (goods : length c ≡ g) (size : length v ≡ g) (same : (j : ℕ) → j < g → slice_index v j ≡ u j) where
  pub price-under : (j : ℕ) → slice_index (to_prices v) j ≡ under g u j - under g u (suc j)
  price-under j =
      let e : j + 1 ≡ suc j = omega arith in
      price-is v j ∙ ap (λ m. slice_index v j - slice_index v m) e ∙ ap (λ n. n - slice_index v (suc j)) (sym (under-is g v u size same j)) ∙ ap (λ n. under g u j - n) (sym (under-is g v u size same (suc j)))

  pub label-from : (j : ℕ) → outer_label c v ≡ suc j → Label g (λ i. slice_index c i) u j
  label-from j e =
      let q : suc j ≡ suc (0 + j) = omega arith in
      let a = is-above 0 c (to_prices v) j (e ∙ q) in
      record { more = subst (λ n. slice_index c j < n) (price-under j) a.0; least = λ i h. subst (λ n. n ≤ slice_index c i) (price-under i) (a.1 i h) }

  pub label-to : (j : ℕ) → j < g → Label g (λ i. slice_index c i) u j → outer_label c v ≡ suc j
  label-to j h l =
      above-at 0 c (to_prices v) j (omega arith) (subst (λ n. slice_index c j < n) (sym (price-under j)) l.more)
      (λ i m. subst (λ n. n ≤ slice_index c i) (sym (price-under i)) (l.least i m)) ∙ omega arith
