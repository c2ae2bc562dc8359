-- Checks in their order.
--   insist-ok, insist-err     what a grant and a refusal say of a check
--   passed                    the checks of a price point, where all are passed
--   fails, tests              a test that fails or holds
use Rattle.std.proofs.Common.{◌≡◌, ℕ, Bool, true, false, T as Holds, ◌⊎◌, [], Ok, Err, Result, refl, subst, inl, inr, arith}
use Rattle.mesh.specs.Refusals.{Told, insist}

-- What is granted passed the test.
pub insist-ok : {B : Type 0} (test : Bool) (n : ℕ) (go : Result B Told) (x : B) → insist test n go ≡ Ok x → (test ≡ true) × (go ≡ Ok x)
insist-ok true n go x e = (refl, e)
insist-ok false n go x e = let z : ◌≡◌ {A = ℕ} 0 1 = cc in absurd (omega arith)

-- What is refused failed it, and is refused with its number, or was refused after it.
pub insist-err : {B : Type 0} (test : Bool) (n : ℕ) (go : Result B Told) (t : Told) → insist test n go ≡ Err t
    → ((test ≡ false) × (t ≡ (n, []))) ⊎ ((test ≡ true) × (go ≡ Err t))
insist-err true n go t e = inr (refl, e)
insist-err false n go t e = inl (refl, cc)

pub passed : {B : Type 0} (a b c : Bool) (go : Result B Told) → a ≡ true → b ≡ true → c ≡ true → insist a 1 (insist b 2 (insist c 3 go)) ≡ go
passed a b c go p q r = rw (p, q, r)

pub fails : (test : Bool) → test ≡ false → Holds test → ⊥
fails test e h = subst Holds e h

pub tests : (test : Bool) → Holds test → test ≡ true
tests true h = refl
tests false h = absurd h
