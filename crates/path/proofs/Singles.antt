-- A list in which nothing stands twice, by its places.
use Rattle.std.proofs.Common.{ℕ, zero, suc, ◌<◌, List, [], ◌∷◌, length, get_or, sym, refl, ap, subst, inl, inr, arith}
use Rattle.cells.specs.Corners.{Apart}
use Rattle.path.specs.Lists.{In, Single}

module _ {A : Type 0} (x₀ : A) where
  pub in-get_or : (xs : List A) (i : ℕ) → i < length xs → In (get_or xs i x₀) xs
  in-get_or [] i h = absurd (omega arith)
  in-get_or (x ∷ xs) zero h = inl refl
  in-get_or (x ∷ xs) (suc i) h = inr (in-get_or xs i (omega arith))

  pub single-apart : (xs : List A) → Single xs → Apart (length xs) (λ i. get_or xs i x₀)
  single-apart [] s i j hi hj e = absurd (omega arith)
  single-apart (x ∷ xs) s zero zero hi hj e = refl
  single-apart (x ∷ xs) s zero (suc j) hi hj e = absurd (s.0 (subst (λ y. In y xs) (sym e) (in-get_or xs j (omega arith))))
  single-apart (x ∷ xs) s (suc i) zero hi hj e = absurd (s.0 (subst (λ y. In y xs) e (in-get_or xs i (omega arith))))
  single-apart (x ∷ xs) s (suc i) (suc j) hi hj e = ap suc (single-apart xs s.1 i j (omega arith) (omega arith) e)
