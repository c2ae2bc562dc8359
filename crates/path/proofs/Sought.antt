-- Each of the goods 1 to g labels one of g places, if their labels are such goods and pairwise different.
--   sought       a label stands at one of the places other than d, or at none
--   each-found   each good does
use Rattle.std.proofs.Common.{◌≡◌, ℕ, zero, suc, ◌-◌, ◌<◌, ◌≤◌, cond, eqb, ◌⊎◌, sym, ap, ◌∙◌, inl, inr, arith}
use Rattle.std.proofs.lemmas.Bool.{cases_eq, eq-eqb, ne_eqb, cond-true, cond-false}
use Rattle.cells.proofs.Pigeons.{pigeonhole}

-- One of the places below n, other than d, has the label y.
abbrev pub Stands : ℕ → ℕ → (ℕ → ℕ) → ℕ → Type 0
Stands n d f y = (i : ℕ) × (i < n) × (i ≡ d → ⊥) × (f i ≡ y)

sought : (n d : ℕ) (f : ℕ → ℕ) (y : ℕ) → Stands n d f y ⊎ (Stands n d f y → ⊥)
sought zero d f y = inr (λ s. omega (arith, s.1))
sought (suc n) d f y =
    elim (sought n d f y) [
      | inl s ↦ inl (s.0, omega (arith, s.1), s.2, s.3)
      | inr none ↦ elim (cases_eq n d) [
        | inl here ↦ inr (λ s. last none s (λ e. s.2 (e ∙ here)))
        | inr other ↦ elim (cases_eq (f n) y) [
          | inl same ↦ inl (n, omega arith, other, same)
          | inr not_same ↦ inr (λ s. last none s (λ e. not_same (ap f (sym e) ∙ s.3)))
        ]
      ]
    ]
  where
    last : (Stands n d f y → ⊥) → (s : Stands (suc n) d f y) → (s.0 ≡ n → ⊥) → ⊥
    last none s ne = none (s.0, omega (arith, s.1, ne), s.2, s.3)

module _ (g d : ℕ) (f : ℕ → ℕ) (place : d ≤ g) (low : (i : ℕ) → i ≤ g → (i ≡ d → ⊥) → 1 ≤ f i) (high : (i : ℕ) → i ≤ g → (i ≡ d → ⊥) → f i ≤ g)
    (apart : (i k : ℕ) → i ≤ g → k ≤ g → (i ≡ d → ⊥) → (k ≡ d → ⊥) → f i ≡ f k → i ≡ k) (j : ℕ) (j-low : 1 ≤ j) (j-high : j ≤ g) where
  -- The labels with j at the place d.
  abbrev with-j : ℕ → ℕ
  with-j i = cond (eqb i d) j (f i)

  there : (i : ℕ) → i ≡ d → with-j i ≡ j
  there i e = cond-true (eqb i d) j (f i) (eq-eqb i d e)

  elsewhere : (i : ℕ) → (i ≡ d → ⊥) → with-j i ≡ f i
  elsewhere i ne = cond-false (eqb i d) j (f i) (ne_eqb i d ne)

  good : (i : ℕ) → i ≤ g → (1 ≤ with-j i) × (with-j i ≤ g)
  good i h =
      elim (cases_eq i d) [
        | inl e ↦ rw (there i e) (j-low, j-high)
        | inr ne ↦ rw (elsewhere i ne) (low i h ne, high i h ne)
      ]

  differ : (Stands (suc g) d f j → ⊥) → (i k : ℕ) → i ≤ g → k ≤ g → with-j i ≡ with-j k → i ≡ k
  differ none i k hi hk e =
      elim (cases_eq i d) [
        | inl a ↦ elim (cases_eq k d) [
          | inl b ↦ a ∙ sym b
          | inr b ↦ absurd (none (k, omega arith, b, sym (elsewhere k b) ∙ sym e ∙ there i a))
        ]
        | inr a ↦ elim (cases_eq k d) [
          | inl b ↦ absurd (none (i, omega arith, a, sym (elsewhere i a) ∙ e ∙ there k b))
          | inr b ↦ apart i k hi hk a b (sym (elsewhere i a) ∙ e ∙ elsewhere k b)
        ]
      ]

  pub each-found : (i : ℕ) × (i ≤ g) × (i ≡ d → ⊥) × (f i ≡ j)
  each-found =
      elim (sought (suc g) d f j) [
        | inl s ↦ (s.0, omega (arith, s.1), s.2, s.3)
        | inr none ↦ absurd (omega (arith, pigeonhole (suc g) g (λ i. with-j i - 1) (λ i h. omega (arith, good i (omega arith))) (λ i k hi hk e. differ none i k (omega arith) (omega arith) (omega (arith, good i (omega arith), good k (omega arith))))))
      ]
