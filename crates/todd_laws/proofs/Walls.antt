-- Which walls hold all corners of a cell but one.
use Rattle.std.specs.Prelude.{◌≡◌, ℕ, suc, ◌-◌, ◌<◌, ◌≤◌, Bool, true, false, ◌⊎◌, ◌≢◌, refl}
use Rattle.std.proofs.Common.{sym, ◌∙◌, ap, inl, inr, arith}
use Rattle.std.proofs.lemmas.Bool.{cases_lt, cases_eq}
use Rattle.cells.specs.Corners.{Wall, outer_wall, real_wall, good_wall}
use Rattle.todd_laws.proofs.Family.{level, Cell, corner, Valid, AllOn, under}
use Rattle.todd_laws.proofs.Moves.{before, after, level_before, level-after, turns}
use Rattle.todd_laws.proofs.Corners.{at-apart}
use Rattle.todd_laws.proofs.Starts.{under-in, under-past}

changes : (v : Bool) (a p k m : ℕ) → k ≤ p → p < m → level v a p k ≢ level v a p m
changes v a p k m low high e = turns v a (sym (level_before v a p k low) ∙ e ∙ level-after v a p m high)

-- A level does not change at a step that is another's.
quiet : (v : Bool) (a p q : ℕ) → (p ≢ q) → level v a q p ≡ level v a q (suc p)
quiet true a p q n = omega arith
quiet false a p q n = omega arith

-- A level that has one value at all places but i moves at an end, and i is that end.
pub constant-end : (g p i y : ℕ) (v : Bool) (a : ℕ) → p < g → i ≤ g → ((k : ℕ) → k ≤ g → (k ≢ i) → level v a p k ≡ y) → ((i ≡ 0) × (p ≡ 0)) ⊎ ((i ≡ g) × (suc p ≡ g))
constant-end g p i y v a low within all =
    let off : (k m : ℕ) → k ≤ p → p < m → m ≤ g → (k ≢ i) → (m ≢ i) → ⊥ =
    λ k m h l r n o. changes v a p k m h l (all k (omega arith) n ∙ sym (all m r o)) in
    elim (cases_eq i 0) [
      | inl e ↦ elim (cases_eq p 0) [
        | inl z ↦ inl (e, z)
        | inr z ↦ absurd (off p (suc p) (omega arith) (omega arith) (omega arith) (λ x. omega arith) (λ x. omega arith))
      ]
      | inr n ↦ elim (cases_eq i g) [
        | inl e ↦ elim (cases_eq (suc p) g) [
          | inl z ↦ inr (e, z)
          | inr z ↦ absurd (off p (suc p) (omega arith) (omega arith) (omega arith) (λ x. omega arith) (λ x. omega arith))
        ]
        | inr o ↦ absurd (off 0 g (omega arith) low (omega arith) (λ x. omega arith) (λ x. omega arith))
      ]
    ]

-- Two levels that are alike at all places but i move one after the other, and i lies between.
one-near : (g i : ℕ) (v : Bool) (a p : ℕ) (v' : Bool) (a' q : ℕ) → p < g → (p ≢ q) → ((k : ℕ) → k ≤ g → (k ≢ i) → level v a p k ≡ level v' a' q k) → (i ≡ p) ⊎ (i ≡ suc p)
one-near g i v a p v' a' q low n all =
    elim (cases_eq i p) [
      | inl e ↦ inl e
      | inr x ↦ elim (cases_eq i (suc p)) [
        | inl e ↦ inr e
        | inr y ↦ absurd (changes v a p p (suc p) (omega arith) (omega arith) (all p (omega arith) (λ z. x (sym z)) ∙ quiet v' a' p q n ∙ sym (all (suc p) (omega arith) (λ z. y (sym z)))))
      ]
    ]

near : (i p q : ℕ) → (p ≢ q) → (i ≡ p) ⊎ (i ≡ suc p) → (i ≡ q) ⊎ (i ≡ suc q) → ((i ≡ suc p) × (q ≡ suc p)) ⊎ ((i ≡ suc q) × (p ≡ suc q))
near i p q n (inl x) (inl y) = absurd (n (sym x ∙ y))
near i p q n (inl x) (inr y) = inr (y, omega arith)
near i p q n (inr x) (inl y) = inl (x, omega arith)
near i p q n (inr x) (inr y) = absurd (omega arith)

same_low : (v : Bool) (a : ℕ) (v' : Bool) (a' : ℕ) → before v a ≡ before v' a' → after v a ≡ after v' a' → a ≡ a'
same_low true a true a' x y = x
same_low true a false a' x y = omega arith
same_low false a true a' x y = omega arith
same_low false a false a' x y = y

-- Two levels alike at all places but i.
pub record Neighbours (i a p a' q : ℕ) : Type 0 where
  pub low : a ≡ a'
  pub near : ((i ≡ suc p) × (q ≡ suc p)) ⊎ ((i ≡ suc q) × (p ≡ suc q))

pub alike : (g i : ℕ) (v : Bool) (a p : ℕ) (v' : Bool) (a' q : ℕ) → p < g → q < g → (p ≢ q)
    → ((k : ℕ) → k ≤ g → (k ≢ i) → level v a p k ≡ level v' a' q k) → Neighbours i a p a' q
alike g i v a p v' a' q low high n all =
    let w = near i p q n (one-near g i v a p v' a' q low n all) (one-near g i v' a' q v a p high (λ x. n (sym x)) (λ k l m. sym (all k l m))) in
    let first : (0 ≢ i) = λ e. elim w [ inl x ↦ omega (arith, x.0) | inr x ↦ omega (arith, x.0) ] in
    let last : (g ≢ i) = λ e. elim w [ inl x ↦ omega (arith, x.0, x.1) | inr x ↦ omega (arith, x.0, x.1) ] in
    record {
      low =
          same_low v a v' a' (sym (level_before v a p 0 (omega arith)) ∙ all 0 (omega arith) first ∙ level_before v' a' q 0 (omega arith))
          (sym (level-after v a p g low) ∙ all g (omega arith) last ∙ level-after v' a' q g high);
      near = w;
    }

-- The level that is 0 at all places but i, at an end.
pub record Ended (g i : ℕ) (v : Bool) (a p : ℕ) : Type 0 where
  pub low : a ≡ 0
  pub way : ((i ≡ 0) × (p ≡ 0) × (v ≡ false)) ⊎ ((i ≡ g) × (suc p ≡ g) × (v ≡ true))

ended-first : (v : Bool) (a : ℕ) → after v a ≡ 0 → (a ≡ 0) × (v ≡ false)
ended-first true a e = absurd (omega arith)
ended-first false a e = (e, refl)

ended-last : (v : Bool) (a : ℕ) → before v a ≡ 0 → (a ≡ 0) × (v ≡ true)
ended-last true a e = (e, refl)
ended-last false a e = absurd (omega arith)

pub all-zero : (g i : ℕ) (v : Bool) (a p : ℕ) → p < g → i ≤ g → ((k : ℕ) → k ≤ g → (k ≢ i) → level v a p k ≡ 0) → Ended g i v a p
all-zero g i v a p low within all =
    elim (constant-end g p i 0 v a low within all) [
      | inl e ↦
          let x = ended-first v a (sym (level-after v a p g low) ∙ all g (omega arith) (λ z. omega (arith, e.0))) in
          record { low = x.0; way = inl (e.0, e.1, x.1) }
      | inr e ↦
          let x = ended-last v a (sym (level_before v a p 0 (omega arith)) ∙ all 0 (omega arith) (λ z. omega (arith, e.0))) in
          record { low = x.0; way = inr (e.0, e.1, x.1) }
    ]

-- No wall holds all corners but the one at i, if level 0 does not end at i, the last level does not end there at 0, and no two levels are
-- neighbours there.
module _ (g D : ℕ) (up : ℕ → Bool) (some : 1 ≤ g) (c : Cell) (valid : Valid g D up c) (i : ℕ) (within : i ≤ g)
    (top : ((i ≡ 0) × (c.at 0 ≡ 0)) ⊎ ((i ≡ g) × (suc (c.at 0) ≡ g)) → ⊥)
    (bottom : (j : ℕ) → suc j ≡ g → Ended g i (up (c.lo j)) (c.lo j) (c.at j) → ⊥)
    (between : (j : ℕ) → suc j < g → Neighbours i (c.lo j) (c.at j) (c.lo (suc j)) (c.at (suc j)) → ⊥) where
  off-good : (j : ℕ) → j < g → ((k : ℕ) → k ≤ g → (k ≢ i) → corner up c k j ≡ under g (corner up c k) (suc j)) → ⊥
  off-good j h all =
      elim (cases_lt (suc j) g) [
        | inl less ↦
            between j less
            (alike g i (up (c.lo j)) (c.lo j) (c.at j) (up (c.lo (suc j))) (c.lo (suc j)) (c.at (suc j)) (valid.perm.at-below j h) (valid.perm.at-below (suc j) less)
            (λ e. let x = at-apart g c.ord c.at valid.perm j (suc j) h less e in omega arith)
            (λ k l n. all k l n ∙ under-in g (corner up c k) (suc j) less))
        | inr more ↦
            bottom j (omega arith)
            (all-zero g i (up (c.lo j)) (c.lo j) (c.at j) (valid.perm.at-below j h) within
            (λ k l n. all k l n ∙ under-past g (corner up c k) (suc j) more))
      ]

  pub no-wall-holds : (w : Wall) → AllOn g D up c i w → ⊥
  no-wall-holds outer_wall all = top (constant-end g (c.at 0) i (suc D) (up (c.lo 0)) (c.lo 0) (valid.perm.at-below 0 some) within all)
  no-wall-holds real_wall all = top (constant-end g (c.at 0) i D (up (c.lo 0)) (c.lo 0) (valid.perm.at-below 0 some) within all)
  no-wall-holds (good_wall j) all =
      -- some place other than i tells that the wall is one of a good
      let k : (k : ℕ) × (k ≤ g) × (k ≢ i) = elim (cases_eq i 0) [ inl e ↦ (g, omega arith, λ z. omega arith) | inr n ↦ (0, omega arith, λ z. n (sym z)) ] in
      let h = all k.0 k.1 k.2 in
      let e : suc (j - 1) ≡ j = omega (arith, h.0) in
      off-good (j - 1) (omega (arith, h.0, h.1)) (λ m l n. (all m l n).2 ∙ ap (λ z. under g (corner up c m) z) (sym e))
