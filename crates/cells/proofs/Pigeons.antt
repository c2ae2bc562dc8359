-- No more than n points fit apart into 0 to n - 1. Assumes nothing.
--   fewer             one point and one value less: where a point has the last value it gets that of the last point
--   pigeonhole        points that are pairwise different and below n are at most n
use Rattle.std.proofs.Common.{◌≡◌, ℕ, zero, suc, ◌<◌, cond, eqb, ◌⊎◌, sym, ◌∙◌, inl, inr, ⊎_elim, suc-le-suc, arith}
use Rattle.std.proofs.lemmas.Bool.{cases_Bool, cond-true, cond-false, eqb-true, eqb-false}
use Rattle.cells.specs.Corners.{Apart}
use Rattle.cells.specs.Counting.{Pigeonhole}

-- The points 0 to m - 1 without the value n: that of the point m stands in for it.
abbrev fewer : ℕ → ℕ → (ℕ → ℕ) → ℕ → ℕ
fewer m n f i = cond (eqb (f i) n) (f m) (f i)

-- The point i has the value n, or it has not.
abbrev Way : ℕ → ℕ → (ℕ → ℕ) → ℕ → Type 0
Way m n f i = ((f i ≡ n) × (fewer m n f i ≡ f m)) ⊎ ((f i ≡ n → ⊥) × (fewer m n f i ≡ f i))

way : (m n : ℕ) (f : ℕ → ℕ) (i : ℕ) → Way m n f i
way m n f i =
    ⊎_elim
    (λ t. inl (eqb-true (f i) n t, cond-true (eqb (f i) n) (f m) (f i) t))
    (λ t. inr (eqb-false (f i) n t, cond-false (eqb (f i) n) (f m) (f i) t))
    (cases_Bool (eqb (f i) n))

module _ (m n : ℕ) (f : ℕ → ℕ) (small : (i : ℕ) → i < suc m → f i < suc n) (differ : Apart (suc m) f) where
  -- No point before m has the value of m.
  not_last : (i : ℕ) → i < m → f i ≡ f m → ⊥
  not_last i low e = let z : i ≡ m = differ i m (omega arith) (omega arith) e in omega arith

  fewer-below : (i : ℕ) → i < m → Way m n f i → fewer m n f i < n
  fewer-below i low (inl (e, s)) =
      let l : f m < suc n = small m (omega arith) in
      let o : f m ≡ n → ⊥ = λ h. not_last i low (e ∙ sym h) in
      omega (arith, o)
  fewer-below i low (inr (o, s)) = let l : f i < suc n = small i (omega arith) in omega (arith, o)

  fewer-apart : (i j : ℕ) → i < m → j < m → fewer m n f i ≡ fewer m n f j → Way m n f i → Way m n f j → i ≡ j
  fewer-apart i j low high same (inl (e, s)) (inl (h, t)) = differ i j (omega arith) (omega arith) (e ∙ sym h)
  fewer-apart i j low high same (inl (e, s)) (inr (o, t)) = absurd (not_last j high (sym t ∙ sym same ∙ s))
  fewer-apart i j low high same (inr (o, s)) (inl (h, t)) = absurd (not_last i low (sym s ∙ same ∙ t))
  fewer-apart i j low high same (inr (o, s)) (inr (u, t)) = differ i j (omega arith) (omega arith) (sym s ∙ same ∙ t)

pub pigeonhole : Pigeonhole
pigeonhole zero n f small differ = omega arith
pigeonhole (suc m) zero f small differ = let s : f 0 < 0 = small 0 (omega arith) in omega arith
pigeonhole (suc m) (suc n) f small differ =
    suc-le-suc
    (pigeonhole m n (fewer m n f) (λ i low. fewer-below m n f small differ i low (way m n f i))
    (λ i j low high same. fewer-apart m n f small differ i j low high same (way m n f i) (way m n f j)))
