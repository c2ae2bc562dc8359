-- One level over the places of a cell.
--   before, after       its value before its step and after it
--   First               the order of two steps, by direction
use Rattle.std.specs.Prelude.{◌≡◌, ℕ, suc, ◌<◌, ◌≤◌, Bool, true, false, ◌⊎◌, ◌≢◌, refl}
use Rattle.std.proofs.Common.{inl, inr, arith}
use Rattle.todd_laws.proofs.Family.{level, First}

abbrev pub before : Bool → ℕ → ℕ
before true a = a
before false a = suc a

abbrev pub after : Bool → ℕ → ℕ
after true a = suc a
after false a = a

pub level_before : (b : Bool) (a q k : ℕ) → k ≤ q → level b a q k ≡ before b a
level_before true a q k h = omega arith
level_before false a q k h = omega arith

pub level-after : (b : Bool) (a q k : ℕ) → q < k → level b a q k ≡ after b a
level-after true a q k h = omega arith
level-after false a q k h = omega arith

pub before-level : (b : Bool) (a q k : ℕ) → level b a q k ≡ before b a → k ≤ q
before-level true a q k h = omega arith
before-level false a q k h = omega arith

pub after-level : (b : Bool) (a q k : ℕ) → level b a q k ≡ after b a → q < k
after-level true a q k h = omega arith
after-level false a q k h = omega arith

pub turns : (b : Bool) (a : ℕ) → before b a ≢ after b a
turns true a h = omega arith
turns false a h = omega arith

pub level-least : (b : Bool) (a q k : ℕ) → a ≤ level b a q k
level-least true a q k = omega arith
level-least false a q k = omega arith

pub level-most : (b : Bool) (a q k : ℕ) → level b a q k ≤ suc a
level-most true a q k = omega arith
level-most false a q k = omega arith

-- Where a level has its smaller value, and where the other.
abbrev pub low-place : ℕ → Bool → ℕ
low-place g true = 0
low-place g false = g

abbrev pub high-place : ℕ → Bool → ℕ
high-place g true = g
high-place g false = 0

pub low-within : (g : ℕ) (b : Bool) → low-place g b ≤ g
low-within g true = omega arith
low-within g false = omega arith

pub high-within : (g : ℕ) (b : Bool) → high-place g b ≤ g
high-within g true = omega arith
high-within g false = omega arith

pub level-low : (g : ℕ) (b : Bool) (a q : ℕ) → q < g → level b a q (low-place g b) ≡ a
level-low g true a q h = omega arith
level-low g false a q h = omega arith

pub level-high : (g : ℕ) (b : Bool) (a q : ℕ) → q < g → level b a q (high-place g b) ≡ suc a
level-high g true a q h = omega arith
level-high g false a q h = omega arith

-- Of two levels with the same smaller value, the one whose step comes first stands at least as high.
pub first-falls : (b : Bool) (a m n k : ℕ) → First b m n → level b a n k ≤ level b a m k
first-falls true a m n k h = omega arith
first-falls false a m n k h = omega arith

pub first-from : (b : Bool) (a m n : ℕ) → (m ≢ n) → ((k : ℕ) → (k ≡ suc m) ⊎ (k ≡ suc n) → level b a n k ≤ level b a m k) → First b m n
first-from true a m n apart h = omega (arith, h (suc n) (inr refl), apart)
first-from false a m n apart h = omega (arith, h (suc m) (inl refl), apart)

pub first_on : (b : Bool) (m n l : ℕ) → First b m n → First b n l → First b m l
first_on true m n l h k = omega arith
first_on false m n l h k = omega arith

pub first-not : (b : Bool) (m n : ℕ) → First b m n → First b n m → ⊥
first-not true m n h k = omega arith
first-not false m n h k = omega arith

pub first-apart : (b : Bool) (m n : ℕ) → First b m n → m ≢ n
first-apart true m n h e = omega arith
first-apart false m n h e = omega arith
