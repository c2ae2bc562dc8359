-- The places of a cell but one, by their number among these.
--   among          the number of a place among those other than i; skip undoes it
--   skip-apart     different numbers have different places
use Rattle.std.proofs.Common.{◌≡◌, ℕ, ◌-◌, ◌<◌, ◌≤◌, cond, ltb, sym, ap, ◌∙◌, arith}
use Rattle.std.proofs.lemmas.Bool.Decides.{nat_tests}
use Rattle.cells.specs.Corners.{skip}

abbrev pub among : ℕ → ℕ → ℕ
among i p = cond (ltb p i) p (p - 1)

pub skip-le : (g i k : ℕ) → k < g → skip i k ≤ g
skip-le g i k h = grind (arith, nat_tests)

pub skip-other : (i k : ℕ) → skip i k ≡ i → ⊥
skip-other i k e = grind (arith, nat_tests)

pub skip-apart : (i k m : ℕ) → skip i k ≡ skip i m → k ≡ m
skip-apart i k m e = grind (arith, nat_tests)

pub among_below : (g i p : ℕ) → i ≤ g → p ≤ g → (p ≡ i → ⊥) → among i p < g
among_below g i p h l ne = grind (arith, nat_tests)

pub skip-among : (i p : ℕ) → (p ≡ i → ⊥) → skip i (among i p) ≡ p
skip-among i p ne = grind (arith, nat_tests)

-- Where two places have one number among those other than i, they are one.
pub among-apart : (i p q : ℕ) → (p ≡ i → ⊥) → (q ≡ i → ⊥) → among i p ≡ among i q → p ≡ q
among-apart i p q ne nq e = sym (skip-among i p ne) ∙ ap (skip i) e ∙ skip-among i q nq
