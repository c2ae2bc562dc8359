-- A valid cell has corners, they are apart, and cells with the same corners are the same.
use Rattle.std.specs.Prelude.{◌≡◌, ℕ, suc, ◌<◌, ◌≤◌, Bool, ◌⊎◌}
use Rattle.std.proofs.Common.{sym, ◌∙◌, ap, subst, inl, inr, arith}
use Rattle.std.proofs.lemmas.Bool.{cases_lt, cases_order}
use Rattle.todd_laws.proofs.Family.{level, Cell, corner, Perm, Corner, First, Valid, Same}
use Rattle.todd_laws.proofs.Rising.{rising_stays}
use Rattle.todd_laws.proofs.Moves.{level_before, level-after, before-level, after-level, turns, level-least, level-most, low-place, high-place, low-within, high-within, level-low, level-high, first-falls, first-from}

at_most : (k g : ℕ) → k < suc g → k ≤ g
at_most k g h = omega arith

-- Different levels move at different steps.
pub at-apart : (g : ℕ) (p q : ℕ → ℕ) → Perm g p q → (i j : ℕ) → i < g → j < g → q i ≡ q j → i ≡ j
at-apart g p q perm i j low high e = sym (perm.ord-at i low) ∙ ap p e ∙ perm.ord-at j high

-- If steps agree, so do orders.
pub same-ord : (g : ℕ) (p q p' q' : ℕ → ℕ) → Perm g p q → Perm g p' q' → ((j : ℕ) → j < g → q j ≡ q' j) → (k : ℕ) → k < g → p k ≡ p' k
same-ord g p q p' q' perm fine same k low =
    let h = perm.ord-below k low in
    sym (fine.ord-at (p k) h) ∙ ap p' (sym (same (p k) h) ∙ perm.at-ord k low)

module _ (g D : ℕ) (up : ℕ → Bool) (some : 1 ≤ g) where
  falls-by : (a b m n k : ℕ) → b ≤ a → (b ≡ a → First (up a) m n) → level (up b) b n k ≤ level (up a) a m k
  falls-by a b m n k h tie =
      elim (cases_lt b a) [
        | inl less ↦ omega (arith, level-most (up b) b n k, level-least (up a) a m k)
        | inr more ↦
            let e : b ≡ a = omega arith in
            subst (λ x. level (up x) x n k ≤ level (up a) a m k) (sym e) (first-falls (up a) a m n k (tie e))
      ]

  pub has-corners : (c : Cell) → Valid g D up c → (k : ℕ) → k ≤ g → Corner g D (corner up c k)
  has-corners c valid k low =
      record {
        top = omega (arith, level-least (up (c.lo 0)) (c.lo 0) (c.at 0) k, valid.top);
        top-most = omega (arith, level-most (up (c.lo 0)) (c.lo 0) (c.at 0) k, valid.top);
        falls = λ j h. falls-by (c.lo j) (c.lo (suc j)) (c.at j) (c.at (suc j)) k (valid.falls j h) (valid.ties j h);
      }

  pub from-corners : (c : Cell) → Perm g c.ord c.at → ((k : ℕ) → k ≤ g → Corner g D (corner up c k)) → Valid g D up c
  from-corners c perm corners = record { perm = perm; top = first; falls = fall; ties = tie }
    where
      first : c.lo 0 ≡ D
      first =
          let b = up (c.lo 0) in
          let h = perm.at-below 0 some in
          let l = level-low g b (c.lo 0) (c.at 0) h in
          let m = level-high g b (c.lo 0) (c.at 0) h in
          let p = (corners (low-place g b) (low-within g b)).top in
          let q = (corners (high-place g b) (high-within g b)).top-most in
          omega arith

      fall : (j : ℕ) → suc j < g → c.lo (suc j) ≤ c.lo j
      fall j h =
          let b = up (c.lo j) in
          let i : j < g = omega arith in
          let l = level-low g b (c.lo j) (c.at j) (perm.at-below j i) in
          let p = (corners (low-place g b) (low-within g b)).falls j h in
          let q = level-least (up (c.lo (suc j))) (c.lo (suc j)) (c.at (suc j)) (low-place g b) in
          omega arith

      tie : (j : ℕ) → suc j < g → c.lo (suc j) ≡ c.lo j → First (up (c.lo j)) (c.at j) (c.at (suc j))
      tie j h e =
          let i : j < g = omega arith in
          let near : (k : ℕ) → (k ≡ suc (c.at j)) ⊎ (k ≡ suc (c.at (suc j))) → k ≤ g =
          λ k w. elim w [ inl x ↦ omega (arith, perm.at-below j i) | inr x ↦ omega (arith, perm.at-below (suc j) h) ] in
          first-from (up (c.lo j)) (c.lo j) (c.at j) (c.at (suc j))
          (λ x. let y = at-apart g c.ord c.at perm j (suc j) i h x in omega arith)
          (λ k w. subst (λ a. level (up a) a (c.at (suc j)) k ≤ corner up c k j) e ((corners k (near k w)).falls j h))

  -- The step k lies between the places k and m.
  apart : (c : Cell) → Valid g D up c → (k m : ℕ) → k < m → m ≤ g → ((j : ℕ) → j < g → corner up c k j ≡ corner up c m j) → ⊥
  apart c valid k m less high same =
      let low : k < g = omega arith in
      let j = c.ord k in
      let e = valid.perm.at-ord k low in
      let b = up (c.lo j) in
      turns b (c.lo j)
      (sym (level_before b (c.lo j) (c.at j) k (omega arith)) ∙ same j (valid.perm.ord-below k low) ∙ level-after b (c.lo j) (c.at j) m (omega arith))

  pub stand-apart : (c : Cell) → Valid g D up c → (k m : ℕ) → k ≤ g → m ≤ g → ((j : ℕ) → j < g → corner up c k j ≡ corner up c m j) → k ≡ m
  stand-apart c valid k m low high same =
      elim (cases_order k m) [
        | inl e ↦ e
        | inr w ↦ elim w [
          | inl less ↦ absurd (apart c valid k m less high same)
          | inr more ↦ absurd (apart c valid m k more low (λ j h. sym (same j h)))
        ]
      ]

  -- Every corner of c is one of d.
  abbrev pub Within : Cell → Cell → Type 0
  Within c d = (k : ℕ) → k ≤ g → (m : ℕ) × (m ≤ g) × ((j : ℕ) → j < g → corner up c k j ≡ corner up d m j)

  lo-least : (c d : Cell) → Valid g D up c → Within c d → (j : ℕ) → j < g → d.lo j ≤ c.lo j
  lo-least c d valid within j h =
      let b = up (c.lo j) in
      let w = within (low-place g b) (low-within g b) in
      let l = level-low g b (c.lo j) (c.at j) (valid.perm.at-below j h) in
      let e = w.2 j h in
      let m = level-least (up (d.lo j)) (d.lo j) (d.at j) w.0 in
      omega arith

  module _ (c d : Cell) (valid : Valid g D up c) (fine : Valid g D up d) (in-d : Within c d) (in_c : Within d c) where
    lows : (j : ℕ) → j < g → c.lo j ≡ d.lo j
    lows j h = omega (arith, lo-least c d valid in-d j h, lo-least d c fine in_c j h)

    -- The place in d of the corner at k.
    abbrev to : (k : ℕ) → k < suc g → ℕ
    to k h = (in-d k (at_most k g h)).0

    to_is : (k : ℕ) (p : k < suc g) (j : ℕ) → j < g → corner up c k j ≡ level (up (c.lo j)) (c.lo j) (d.at j) (to k p)
    to_is k p j h = subst (λ a. corner up c k j ≡ level (up a) a (d.at j) (to k p)) (sym (lows j h)) ((in-d k (at_most k g p)).2 j h)

    below : (k : ℕ) (p : k < suc g) → to k p < suc g
    below k p = omega (arith, (in-d k (at_most k g p)).1)

    rises : (k : ℕ) (p : k < suc g) (q : suc k < suc g) → to k p < to (suc k) q
    rises k p q =
        let low : k < g = omega arith in
        let j = c.ord k in
        let h = valid.perm.ord-below k low in
        let e = valid.perm.at-ord k low in
        let b = up (c.lo j) in
        let x = before-level b (c.lo j) (d.at j) (to k p) (sym (to_is k p j h) ∙ level_before b (c.lo j) (c.at j) k (omega arith)) in
        let y = after-level b (c.lo j) (d.at j) (to (suc k) q) (sym (to_is (suc k) q j h) ∙ level-after b (c.lo j) (c.at j) (suc k) (omega arith)) in
        omega arith

    alike : (k : ℕ) → k ≤ g → (j : ℕ) → j < g → level (up (c.lo j)) (c.lo j) (c.at j) k ≡ level (up (c.lo j)) (c.lo j) (d.at j) k
    alike k low j h =
        let p : k < suc g = omega arith in
        subst (λ m. corner up c k j ≡ level (up (c.lo j)) (c.lo j) (d.at j) m) (rising_stays (suc g) to below rises k p) (to_is k p j h)

    steps : (j : ℕ) → j < g → c.at j ≡ d.at j
    steps j h =
        let b = up (c.lo j) in
        let l = c.lo j in
        let m = c.at j in
        let n = d.at j in
        let p = valid.perm.at-below j h in
        let q = fine.perm.at-below j h in
        let x = before-level b l n m (sym (alike m (omega arith) j h) ∙ level_before b l m m (omega arith)) in
        let y = before-level b l m n (alike n (omega arith) j h ∙ level_before b l n n (omega arith)) in
        omega arith

    pub one_cell : Same g c d
    one_cell = record { lo = lows; ord = same-ord g c.ord c.at d.ord d.at valid.perm fine.perm steps; at = steps }
