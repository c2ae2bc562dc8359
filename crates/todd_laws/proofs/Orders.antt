-- Orders that change: one that turns by one, either way, and one where two neighbours change places.
use Rattle.std.specs.Prelude.{◌≡◌, ℕ, suc, ◌<◌, ◌≢◌}
use Rattle.std.proofs.Common.{ap, ◌∙◌, arith}
use Rattle.std.proofs.lemmas.Bool.Decides.{nat_tests}
use Rattle.todd_laws.proofs.Family.{Perm, later, sooner, swap}

perm-by : (g : ℕ) (p q f h : ℕ → ℕ) → Perm g p q → ((k : ℕ) → k < g → f k < g) → ((k : ℕ) → k < g → h k < g)
    → ((k : ℕ) → k < g → h (f k) ≡ k) → ((k : ℕ) → k < g → f (h k) ≡ k) → Perm g (λ k. p (f k)) (λ j. h (q j))
perm-by g p q f h m fl hl hf fh = record {
  ord-below = λ k l. m.ord-below (f k) (fl k l);
  at-below = λ j l. hl (q j) (m.at-below j l);
  at-ord = λ k l. ap h (m.at-ord (f k) (fl k l)) ∙ hf k l;
  ord-at = λ j l. ap p (fh (q j) (m.at-below j l)) ∙ m.ord-at j l;
}

later-below : (g k : ℕ) → k < g → later g k < g
later-below g k h = grind (arith, nat_tests)

sooner-below : (g k : ℕ) → k < g → sooner g k < g
sooner-below g k h = grind (arith, nat_tests)

sooner-later : (g k : ℕ) → k < g → sooner g (later g k) ≡ k
sooner-later g k h = grind (arith, nat_tests)

later-sooner : (g k : ℕ) → k < g → later g (sooner g k) ≡ k
later-sooner g k h = grind (arith, nat_tests)

swap-below : (g m k : ℕ) → suc m < g → k < g → swap m k < g
swap-below g m k h l = grind (arith, nat_tests)

pub swap-here : (m : ℕ) → swap m m ≡ suc m
swap-here m = grind (arith, nat_tests)

pub swap-next : (m : ℕ) → swap m (suc m) ≡ m
swap-next m = grind (arith, nat_tests)

pub swap-else : (m k : ℕ) → (k ≢ m) → (k ≢ suc m) → swap m k ≡ k
swap-else m k p q = grind (arith, nat_tests)

pub swap-twice : (m k : ℕ) → swap m (swap m k) ≡ k
swap-twice m k = grind (arith, nat_tests)

module _ (g : ℕ) (p q : ℕ → ℕ) (perm : Perm g p q) where
  pub end-perm : Perm g (λ k. p (later g k)) (λ j. sooner g (q j))
  end-perm = perm-by g p q (later g) (sooner g) perm (later-below g) (sooner-below g) (sooner-later g) (later-sooner g)

  pub front-perm : Perm g (λ k. p (sooner g k)) (λ j. later g (q j))
  front-perm = perm-by g p q (sooner g) (later g) perm (sooner-below g) (later-below g) (later-sooner g) (sooner-later g)

  pub swap-perm : (m : ℕ) → suc m < g → Perm g (λ k. p (swap m k)) (λ j. swap m (q j))
  swap-perm m h = perm-by g p q (swap m) (swap m) perm (λ k. swap-below g m k h) (λ k. swap-below g m k h) (λ k l. swap-twice m k) (λ k l. swap-twice m k)
