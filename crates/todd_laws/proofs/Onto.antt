-- As many different values below n as there are places: each value occurs. The place of a number in a list.
use Rattle.std.specs.Prelude.{◌≡◌, ℕ, zero, suc, ◌<◌, ◌≤◌, cond, ◌⊎◌, List, [], ◌∷◌, length, ◌==◌, ◌≢◌, slice_index}
use Rattle.std.proofs.Common.{sym, ap, ◌∙◌, inl, inr, arith}
use Rattle.std.proofs.lemmas.Bool.Decides.{nat_tests}
use Rattle.std.proofs.lemmas.Bool.{cases_lt, cases_eq, cases_Bool, eqb-true, eq-eqb, cond-true, cond-false}
use Rattle.cells.specs.Corners.{Apart}
use Rattle.cells.proofs.Pigeons.{pigeonhole}

-- The value y stands at one of the places below n.
abbrev pub Occurs : ℕ → (ℕ → ℕ) → ℕ → Type 0
Occurs n f y = (k : ℕ) × (k < n) × (f k ≡ y)

occurs : (n : ℕ) (f : ℕ → ℕ) (y : ℕ) → Occurs n f y ⊎ ((k : ℕ) → k < n → f k ≢ y)
occurs zero f y = inr (λ k low e. omega (arith, low))
occurs (suc n) f y =
    elim (cases_eq (f n) y) [
      | inl e ↦ inl (n, omega arith, e)
      | inr ne ↦ elim (occurs n f y) [
        | inl o ↦ inl (o.0, omega (arith, o.1), o.2)
        | inr none ↦ inr (λ k low e. elim (cases_lt k n) [
          | inl below ↦ none k below e
          | inr last ↦ let same : k ≡ n = omega (arith, low, last) in ne (ap f (sym same) ∙ e)
        ])
      ]
    ]

-- One more place, with the value y.
abbrev more : ℕ → (ℕ → ℕ) → ℕ → ℕ → ℕ
more n f y k = cond (k == n) y (f k)

-- A value that occurs nowhere would have room for one place more than there are values.
pub onto : (n : ℕ) (f : ℕ → ℕ) → ((k : ℕ) → k < n → f k < n) → Apart n f → (y : ℕ) → y < n → Occurs n f y
onto n f below apart y h =
    elim (occurs n f y) [
      | inl o ↦ o
      | inr none ↦ absurd (omega (arith, pigeonhole (suc n) n (more n f y) small (differ none)))
    ]
  where
    small : (k : ℕ) → k < suc n → more n f y k < n
    small k low = grind (arith, nat_tests, below k)

    differ : ((k : ℕ) → k < n → f k ≢ y) → Apart (suc n) (more n f y)
    differ none i j hi hj e = grind (arith, nat_tests, none i, none j, apart i j)

-- The first place of x in a list.
abbrev pub find : List ℕ → ℕ → ℕ
find [] x = 0
find (y ∷ ys) x = cond (y == x) 0 (suc (find ys x))

pub find-is : (p : List ℕ) (x k : ℕ) → k < length p → slice_index p k ≡ x → (find p x ≤ k) × (slice_index p (find p x) ≡ x)
find-is [] x k h e = absurd (omega arith)
find-is (y ∷ ys) x zero h e = rw (cond-true (y == x) 0 (suc (find ys x)) (eq-eqb y x e)) (omega arith, e)
find-is (y ∷ ys) x (suc k) h e =
    elim (cases_Bool (y == x)) [
      | inl t ↦ rw (cond-true (y == x) 0 (suc (find ys x)) t) (omega arith, eqb-true y x t)
      | inr f ↦ let r = find-is ys x k (omega arith) e in rw (cond-false (y == x) 0 (suc (find ys x)) f) (omega (arith, r.0), r.1)
    ]

-- A choice for each number below n, as a function.
module _ (n : ℕ) (R : ℕ → ℕ → Type 0) (some : (j : ℕ) → j < n → (k : ℕ) × R j k) where
  pick : (j : ℕ) → (j < n) ⊎ (n ≤ j) → ℕ
  pick j (inl h) = (some j h).0
  pick j (inr h) = 0

  picked : (j : ℕ) (x : (j < n) ⊎ (n ≤ j)) → j < n → R j (pick j x)
  unfolding pick
  picked j (inl h) l = (some j h).1
  picked j (inr h) l = absurd (omega arith)

  pub chosen : (f : ℕ → ℕ) × ((j : ℕ) → j < n → R j (f j))
  chosen = (λ j. pick j (cases_lt j n), λ j h. picked j (cases_lt j n) h)
