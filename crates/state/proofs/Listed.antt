-- The list of the values of a function at 0, 1, 2, ..
--   listed-get_or, listed-size    an entry, and how many there are
--   listed-ext                  functions that agree below n list the same
--   is-listed                   a list of n entries that are the values of f is the list of f
--   listed-set, listed-altered  one entry is set
use Rattle.std.proofs.Common.{◌≡◌, ℕ, zero, suc, ◌<◌, cond, eqb, List, ◌∷◌, length, get_or, set, sym, refl, ap, ◌∙◌, ap₂, inl, inr, arith}
use Rattle.std.proofs.lemmas.List.{ext_get_or, length-set, get_or-set_same, get_or-set_other}
use Rattle.std.proofs.lemmas.Bool.{cases_eq, cond-true, cond-false, eq-eqb, ne_eqb}
use Rattle.path.specs.Lists.{listed}

pub listed-size : {A : Type 0} (n : ℕ) (f : ℕ → A) → length (listed n f) ≡ n
listed-size zero f = refl
listed-size (suc n) f = ap suc (listed-size n (λ k. f (suc k)))

pub listed-get_or : {A : Type 0} (n : ℕ) (f : ℕ → A) (i : ℕ) (d : A) → i < n → get_or (listed n f) i d ≡ f i
listed-get_or zero f i d h = absurd (omega arith)
listed-get_or (suc n) f zero d h = refl
listed-get_or (suc n) f (suc i) d h = listed-get_or n (λ k. f (suc k)) i d (omega arith)

pub listed-ext : {A : Type 0} (n : ℕ) (f h : ℕ → A) → ((i : ℕ) → i < n → f i ≡ h i) → listed n f ≡ listed n h
listed-ext zero f h same = refl
listed-ext {A} (suc n) f h same =
    ap (λ (x : A). x ∷ listed n (λ k. f (suc k))) (same 0 (omega arith))
    ∙ ap (λ (xs : List A). h 0 ∷ xs) (listed-ext n (λ k. f (suc k)) (λ k. h (suc k)) (λ i l. same (suc i) (omega arith)))

pub is-listed : {A : Type 0} (n : ℕ) (f : ℕ → A) (d : A) (xs : List A) → length xs ≡ n → ((i : ℕ) → i < n → get_or xs i d ≡ f i) → xs ≡ listed n f
is-listed n f d xs size places =
    ext_get_or d xs (listed n f) (size ∙ sym (listed-size n f)) (λ i h. places i (omega arith) ∙ sym (listed-get_or n f i d (omega arith)))

pub listed-set : {A : Type 0} (n : ℕ) (f : ℕ → A) (i : ℕ) (y : A) → i < n → set (listed n f) i y ≡ listed n (λ k. cond (eqb k i) y (f k))
listed-set {A} n f i y low = is-listed n (λ k. cond (eqb k i) y (f k)) y (set (listed n f) i y) (length-set (listed n f) i y ∙ listed-size n f) place
  where
    place : (k : ℕ) → k < n → get_or (set (listed n f) i y) k y ≡ cond (eqb k i) y (f k)
    place k h =
        elim (cases_eq k i) [
          | inl e ↦ ap (λ j. get_or (set (listed n f) i y) j y) e ∙ get_or-set_same (listed n f) i y y (rw (listed-size n f) low)
              ∙ sym (cond-true _ y (f k) (eq-eqb k i e))
          | inr ne ↦ get_or-set_other (listed n f) i k y y ne ∙ listed-get_or n f k y h ∙ sym (cond-false _ y (f k) (ne_eqb k i ne))
        ]

-- The function h has the value a at i, and else those of f.
pub listed-altered : {A : Type 0} (n : ℕ) (f h : ℕ → A) (i : ℕ) (a : A) → h i ≡ a → ((k : ℕ) → k < n → (k ≡ i → ⊥) → f k ≡ h k) → set (listed n f) i a ≡ listed n h
listed-altered zero f h i a here else = refl
listed-altered (suc n) f h zero a here else =
    ap₂ ◌∷◌ (sym here) (listed-ext n (λ k. f (suc k)) (λ k. h (suc k)) (λ k low. else (suc k) (omega arith) (λ e. omega arith)))
listed-altered (suc n) f h (suc i) a here else =
    ap₂ ◌∷◌
    (else 0 (omega arith) (λ e. omega arith))
    (listed-altered n (λ k. f (suc k)) (λ k. h (suc k)) i a here (λ k low other. else (suc k) (omega arith) (λ e. other (omega arith))))
