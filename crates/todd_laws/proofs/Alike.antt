-- Cells that agree below g.
use Rattle.std.specs.Prelude.{◌≡◌, ℕ, suc, ◌-◌, ◌<◌, ◌≤◌, Bool, true, false}
use Rattle.std.proofs.Common.{sym, ◌∙◌, ap, subst, arith}
use Rattle.std.proofs.lemmas.Bool.Decides.{nat_tests}
use Rattle.todd_laws.proofs.Family.{Cell, level, corner, Perm, First, Valid, Same, under, Label, Carries}

-- An order determines its places.
pub at_same : (g : ℕ) (p q r t : ℕ → ℕ) → Perm g p q → Perm g r t → ((k : ℕ) → k < g → p k ≡ r k) → (j : ℕ) → j < g → q j ≡ t j
at_same g p q r t one two e j h =
    let l = two.at-below j h in
    ap q (sym (two.ord-at j h)) ∙ ap q (sym (e (t j) l)) ∙ one.at-ord (t j) l

pub same_turn : (g : ℕ) (c d : Cell) → Same g c d → Same g d c
same_turn g c d s = record { lo = λ j h. sym (s.lo j h); ord = λ j h. sym (s.ord j h); at = λ j h. sym (s.at j h) }

pub same-join : (g : ℕ) (c d e : Cell) → Same g c d → Same g d e → Same g c e
same-join g c d e s t = record { lo = λ j h. s.lo j h ∙ t.lo j h; ord = λ j h. s.ord j h ∙ t.ord j h; at = λ j h. s.at j h ∙ t.at j h }

first-like : (b : Bool) (m n k l : ℕ) → m ≡ k → n ≡ l → First b m n → First b k l
first-like true m n k l p q h = omega arith
first-like false m n k l p q h = omega arith

-- A cell that agrees with a valid one is valid.
pub valid-like : (g D : ℕ) (up : ℕ → Bool) (c d : Cell) → 1 ≤ g → Valid g D up c → Same g c d → Valid g D up d
valid-like g D up c d some v s = record {
  perm = record {
    ord-below = λ k h. omega (arith, s.ord k h, v.perm.ord-below k h);
    at-below = λ j h. omega (arith, s.at j h, v.perm.at-below j h);
    at-ord = λ k h. sym (ap d.at (s.ord k h)) ∙ sym (s.at (c.ord k) (v.perm.ord-below k h)) ∙ v.perm.at-ord k h;
    ord-at = λ j h. sym (ap d.ord (s.at j h)) ∙ sym (s.ord (c.at j) (v.perm.at-below j h)) ∙ v.perm.ord-at j h;
  };
  top = sym (s.lo 0 some) ∙ v.top;
  falls = λ j h. omega (arith, s.lo j (omega arith), s.lo (suc j) h, v.falls j h);
  ties = λ j h e.
      let l : j < g = omega arith in
      subst (λ n. First (up n) (d.at j) (d.at (suc j))) (s.lo j l)
      (first-like (up (c.lo j)) _ _ _ _ (s.at j l) (s.at (suc j) h) (v.ties j h (s.lo (suc j) h ∙ e ∙ sym (s.lo j l))));
}

pub corner-same : (g : ℕ) (up : ℕ → Bool) (c d : Cell) → Same g c d → (k j : ℕ) → j < g → corner up c k j ≡ corner up d k j
corner-same g up c d s k j h = ap (λ x. level (up x) x (c.at j) k) (s.lo j h) ∙ ap (λ q. level (up (d.lo j)) (d.lo j) q k) (s.at j h)

under_same : (g : ℕ) (u v : ℕ → ℕ) → ((j : ℕ) → j < g → u j ≡ v j) → (j : ℕ) → under g u j ≡ under g v j
under_same g u v e j = grind (arith, nat_tests, e j)

label_same : (g : ℕ) (c u v : ℕ → ℕ) (j : ℕ) → ((j : ℕ) → j < g → u j ≡ v j) → Label g c u j → Label g c v j
label_same g c u v j e l = record {
  more = subst (λ n. c j < n) (price j) l.more;
  least = λ i h. subst (λ n. n ≤ c i) (price i) (l.least i h);
}
  where
    price : (j : ℕ) → under g u j - under g u (suc j) ≡ under g v j - under g v (suc j)
    price j = ap (λ n. n - under g u (suc j)) (under_same g u v e j) ∙ ap (λ n. under g v j - n) (under_same g u v e (suc j))

pub carries_same : (g D : ℕ) (up : ℕ → Bool) (p : ℕ → ℕ) (c d : Cell) → 1 ≤ g → Same g c d → Carries g D up p c → Carries g D up p d
carries_same g D up p c d some s carries j h =
    let r = carries j h in
    let k = r.0 in
    (k, r.1, sym (corner-same g up c d s k 0 some) ∙ r.2, label_same g p (corner up c k) (corner up d k) j (corner-same g up c d s k) r.3)
