-- Two neighbouring levels of the same smaller value.
use Rattle.std.specs.Prelude.{◌≡◌, ℕ, suc, Bool, true, false, ◌&&◌, ◌||◌, ◌⊎◌, ◌==◌}
use Rattle.std.proofs.Common.{inl, inr, arith}
use Rattle.std.proofs.lemmas.Bool.Decides.{nat_tests}
use Rattle.std.proofs.lemmas.Bool.{eqb-true, and_parts, or_cases}

-- The levels a and b are neighbours, and as high.
abbrev pub tied : (ℕ → ℕ) → ℕ → ℕ → Bool
tied lo a b = lo a == lo b && (b == suc a || a == suc b)

pub tied-turned : (lo : ℕ → ℕ) (a b : ℕ) → tied lo a b ≡ false → tied lo b a ≡ false
tied-turned lo a b h = grind (arith, nat_tests)

pub tied-after : (lo : ℕ → ℕ) (a b : ℕ) → lo a ≡ lo b → b ≡ suc a → tied lo a b ≡ true
tied-after lo a b e q = grind (arith, nat_tests)

pub tied-before : (lo : ℕ → ℕ) (a b : ℕ) → lo a ≡ lo b → a ≡ suc b → tied lo a b ≡ true
tied-before lo a b e q = grind (arith, nat_tests)

-- The pair of levels behind a tie.
pub tied-cases : (lo : ℕ → ℕ) (a b : ℕ) → tied lo a b ≡ true → (lo a ≡ lo b) × ((b ≡ suc a) ⊎ (a ≡ suc b))
tied-cases lo a b h =
    let x = and_parts (lo a == lo b) (b == suc a || a == suc b) h in (
      eqb-true (lo a) (lo b) x.0,
      elim (or_cases (b == suc a) (a == suc b) x.1) [ inl y ↦ inl (eqb-true b (suc a) y) | inr y ↦ inr (eqb-true a (suc b) y) ],
    )
