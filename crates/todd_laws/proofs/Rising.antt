-- A rising map of the numbers below n into themselves leaves each where it is.
use Rattle.std.specs.Prelude.{◌≡◌, ℕ, zero, suc, ◌+◌, ◌-◌, ◌<◌, ◌≤◌}
use Rattle.std.proofs.Common.{arith}

module _ (n : ℕ) (f : (k : ℕ) → k < n → ℕ) (below : (k : ℕ) (p : k < n) → f k p < n)
    (rises : (k : ℕ) (p : k < n) (q : suc k < n) → f k p < f (suc k) q) where
  rising-up : (k : ℕ) (p : k < n) → k ≤ f k p
  rising-up zero p = omega arith
  rising-up (suc k) p =
      let q : k < n = omega arith in
      let r = rising-up k q in
      let s = rises k q p in
      omega arith

  rising_down : (t k : ℕ) (p : k < n) → n ≡ suc (k + t) → f k p ≤ k
  rising_down zero k p e = omega (arith, below k p)
  rising_down (suc t) k p e =
      let q : suc k < n = omega arith in
      let r = rising_down t (suc k) q (omega arith) in
      let s = rises k p q in
      omega arith

  pub rising_stays : (k : ℕ) (p : k < n) → f k p ≡ k
  rising_stays k p = omega (arith, rising-up k p, rising_down (n - suc k) k p (omega arith))
