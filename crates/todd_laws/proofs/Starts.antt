-- The cell at the levels of a start point carries every label, and no other cell does.
use Rattle.std.specs.Prelude.{◌≡◌, ℕ, zero, suc, ◌+◌, ◌-◌, ◌<◌, ◌≤◌, Bool, true, false, refl}
use Rattle.std.proofs.Common.{sym, ◌∙◌, ap, subst, inl, inr, arith}
use Rattle.std.proofs.lemmas.Bool.Decides.{nat_tests}
use Rattle.std.proofs.lemmas.Bool.{cases_lt}
use Rattle.todd_laws.proofs.Family.{level, Cell, corner, Perm, First, Valid, Same, under, Carries, start}
use Rattle.todd_laws.proofs.Rising.{rising_stays}
use Rattle.todd_laws.proofs.Moves.{level-least, level-most}
use Rattle.todd_laws.proofs.Corners.{same-ord}

pub under-in : (g : ℕ) (u : ℕ → ℕ) (j : ℕ) → j < g → under g u j ≡ u j
under-in g u j h = grind (arith, nat_tests)

pub under-past : (g : ℕ) (u : ℕ → ℕ) (j : ℕ) → g ≤ j → under g u j ≡ 0
under-past g u j h = grind (arith, nat_tests)

-- The place at which just the levels up to j have risen.
abbrev label-place : ℕ → Bool → ℕ → ℕ
label-place g true j = suc j
label-place g false j = g - suc j

label-within : (g : ℕ) (b : Bool) (j : ℕ) → j < g → label-place g b j ≤ g
label-within g true j h = omega arith
label-within g false j h = omega arith

start-perm : (g : ℕ) (b : Bool) (w : ℕ → ℕ) → Perm g (start g b w).ord (start g b w).at
start-perm g true w = record { ord-below = λ k h. h; at-below = λ j h. h; at-ord = λ k h. refl; ord-at = λ j h. refl }
start-perm g false w =
    record { ord-below = λ k h. omega arith; at-below = λ j h. omega arith; at-ord = λ k h. omega arith; ord-at = λ j h. omega arith }

start-lo : (g : ℕ) (b : Bool) (w : ℕ → ℕ) (j : ℕ) → (start g b w).lo j ≡ w j
start-lo g true w j = refl
start-lo g false w j = refl

start_first : (g : ℕ) (b : Bool) (w : ℕ → ℕ) (j : ℕ) → suc j < g → First b ((start g b w).at j) ((start g b w).at (suc j))
start_first g true w j h = omega arith
start_first g false w j h = omega arith

start-risen : (g : ℕ) (b : Bool) (w : ℕ → ℕ) (a i j : ℕ) → j < g → i ≤ j → level b a ((start g b w).at i) (label-place g b j) ≡ suc a
start-risen g true w a i j h less = omega arith
start-risen g false w a i j h less = omega arith

start-stays : (g : ℕ) (b : Bool) (w : ℕ → ℕ) (a j : ℕ) → suc j < g → level b a ((start g b w).at (suc j)) (label-place g b j) ≡ a
start-stays g true w a j h = omega arith
start-stays g false w a j h = omega arith

module _ (g D : ℕ) (up : ℕ → Bool) (some : 1 ≤ g) (c w : ℕ → ℕ) (b : Bool) (levels : (j : ℕ) → j < g → w j ≡ c j + under g w (suc j)) (top : w 0 ≡ D)
    (ways : (j : ℕ) → j < g → up (w j) ≡ b) where
  pub start_fine : Valid g D up (start g b w)
  start_fine =
      record {
        perm = start-perm g b w;
        top = start-lo g b w 0 ∙ top;
        falls = λ j h. omega (arith, start-lo g b w j, start-lo g b w (suc j), levels j (omega arith), under-in g w (suc j) h);
        ties = λ j h e.
            let i : j < g = omega arith in
            subst (λ z. First z ((start g b w).at j) ((start g b w).at (suc j))) (sym (ap up (start-lo g b w j) ∙ ways j i)) (start_first g b w j h);
      }

  corner-is : (k j : ℕ) → j < g → corner up (start g b w) k j ≡ level b (w j) ((start g b w).at j) k
  corner-is k j h =
      subst (λ z. level (up z) z ((start g b w).at j) k ≡ level b (w j) ((start g b w).at j) k) (sym (start-lo g b w j))
      (ap (λ z. level z (w j) ((start g b w).at j) k) (ways j h))

  risen : (i j : ℕ) → j < g → i ≤ j → corner up (start g b w) (label-place g b j) i ≡ suc (w i)
  risen i j h less = corner-is (label-place g b j) i (omega arith) ∙ start-risen g b w (w i) i j h less

  left : (j : ℕ) → suc j < g → corner up (start g b w) (label-place g b j) (suc j) ≡ w (suc j)
  left j h = corner-is (label-place g b j) (suc j) h ∙ start-stays g b w (w (suc j)) j h

  -- Past the levels that have risen all is as in w.
  under_left : (j : ℕ) → j < g → under g (corner up (start g b w) (label-place g b j)) (suc j) ≡ under g w (suc j)
  under_left j h =
      let u = corner up (start g b w) (label-place g b j) in
      elim (cases_lt (suc j) g) [
        | inl less ↦ under-in g u (suc j) less ∙ left j less ∙ sym (under-in g w (suc j) less)
        | inr more ↦ under-past g u (suc j) more ∙ sym (under-past g w (suc j) more)
      ]

  pub start-labels : Carries g D up c (start g b w)
  start-labels j h =
      let k = label-place g b j in
      let u = corner up (start g b w) k in (
        k,
        label-within g b j h,
        risen 0 j h (omega arith) ∙ ap suc top,
        record {
          more = omega (arith, under-in g u j h, risen j j h (omega arith), under_left j h, levels j h);
          least = λ i less.
              let p : i < g = omega arith in
              let q : suc i < g = omega arith in
              omega (arith, under-in g u i p, under-in g u (suc i) q, risen i j h (omega arith), risen (suc i) j h less, levels i p, under-in g w (suc i) q);
        },
      )

  module _ (d : Cell) (valid : Valid g D up d) (carries : Carries g D up c d) where
    -- The place of label i.
    abbrev at_label : (i : ℕ) → i < g → ℕ
    at_label i p = (carries i p).0

    abbrev Known : ℕ → Type 0
    Known j = (d.lo j ≡ w j) × ((i : ℕ) (p : i < g) → j ≤ i → corner up d (at_label i p) j ≡ suc (w j))

    -- Where label j stands, the next level has not risen.
    waits : (j : ℕ) (p : j < g) (h : suc j < g) → Known j → corner up d (at_label j p) (suc j) ≤ w (suc j)
    waits j p h known =
        let u = corner up d (at_label j p) in
        omega (arith, (carries j p).3.more, under-in g u j p, under-in g u (suc j) h, known.1 j p (omega arith), levels j p, under-in g w (suc j) h)

    -- Where a later label stands, it has.
    rose : (j i : ℕ) (p : i < g) → j < i → Known j → suc (w (suc j)) ≤ corner up d (at_label i p) (suc j)
    rose j i p less known =
        let u = corner up d (at_label i p) in
        let q : j < g = omega arith in
        let h : suc j < g = omega arith in
        omega (arith, (carries i p).3.least j less, under-in g u j q, under-in g u (suc j) h, known.1 i p (omega arith), levels j q, under-in g w (suc j) h)

    known : (j : ℕ) → j < g → Known j
    known zero h = (valid.top ∙ sym top, λ i p l. (carries i p).2 ∙ ap suc (sym top))
    known (suc j) h =
        let p : j < g = omega arith in
        let before = known j p in
        let b1 = up (d.lo (suc j)) in
        let l = d.lo (suc j) in
        let q = d.at (suc j) in
        let x = waits j p h before in
        let y = rose j (suc j) h (omega arith) before in
        let e : l ≡ w (suc j) = omega (arith, level-least b1 l q (at_label j p), level-most b1 l q (at_label (suc j) h)) in
        (e, λ i r less. omega (arith, rose j i r (omega arith) before, level-most b1 l q (at_label i r)))

    level-is : (k j : ℕ) → j < g → corner up d k j ≡ level b (w j) (d.at j) k
    level-is k j h =
        subst (λ z. level (up z) z (d.at j) k ≡ level b (w j) (d.at j) k) (sym (known j h).0)
        (ap (λ z. level z (w j) (d.at j) k) (ways j h))

    alone-first : (v : Bool) (a a' m n k : ℕ) → level v a m k ≡ suc a → level v a' n k ≤ a' → First v m n
    alone-first true a a' m n k e h = omega arith
    alone-first false a a' m n k e h = omega arith

    in-turn : (j : ℕ) → suc j < g → First b (d.at j) (d.at (suc j))
    in-turn j h =
        let p : j < g = omega arith in
        let k = at_label j p in
        alone-first b (w j) (w (suc j)) (d.at j) (d.at (suc j)) k (sym (level-is k j p) ∙ (known j p).1 j p (omega arith))
        (subst (λ z. z ≤ w (suc j)) (level-is k (suc j) h) (waits j p h (known j p)))

    steps-by : (v : Bool) → ((j : ℕ) → suc j < g → First v (d.at j) (d.at (suc j))) → (j : ℕ) → j < g → d.at j ≡ (start g v w).at j
    steps-by true turn j h = rising_stays g (λ i p. d.at i) (λ i p. valid.perm.at-below i p) (λ i p q. turn i q) j h
    steps-by false turn j h =
        let e = rising_stays g (λ i p. g - suc (d.at i)) (λ i p. omega (arith, valid.perm.at-below i p)) (λ i p q. omega (arith, turn i q, valid.perm.at-below i p)) j h in
        omega (arith, valid.perm.at-below j h)

    pub start-only : Same g d (start g b w)
    start-only =
        let steps = steps-by b in-turn in
        record {
          lo = λ j h. (known j h).0 ∙ sym (start-lo g b w j);
          ord = same-ord g d.ord d.at (start g b w).ord (start g b w).at valid.perm (start-perm g b w) steps;
          at = steps;
        }
