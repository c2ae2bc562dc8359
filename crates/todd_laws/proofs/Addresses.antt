-- The smaller values along the order of a cell tell the cell.
use Rattle.std.specs.Prelude.{◌≡◌, ℕ, zero, suc, ◌<◌, ◌≤◌, Bool, ◌⊎◌}
use Rattle.std.proofs.Common.{sym, ◌∙◌, ap, subst, inl, inr, arith}
use Rattle.std.proofs.lemmas.Bool.{cases_order, cases_eq}
use Rattle.todd_laws.proofs.Family.{Cell, First, Valid, Same}
use Rattle.todd_laws.proofs.Rising.{rising_stays}
use Rattle.todd_laws.proofs.Moves.{first_on, first-not}
use Rattle.todd_laws.proofs.Corners.{same-ord}

module _ (g D : ℕ) (up : ℕ → Bool) where
  pub lo_small : (c : Cell) → Valid g D up c → (j : ℕ) → j < g → c.lo j ≤ D
  lo_small c valid zero h = omega (arith, valid.top)
  lo_small c valid (suc j) h = omega (arith, lo_small c valid j (omega arith), valid.falls j h)

  -- Of two levels, the later stands lower, or as high and their steps have the order of the direction.
  abbrev Ordered : Cell → ℕ → ℕ → Type 0
  Ordered c i j = (c.lo j < c.lo i) ⊎ ((c.lo j ≡ c.lo i) × First (up (c.lo i)) (c.at i) (c.at j))

  next-ordered : (c : Cell) → Valid g D up c → (j : ℕ) → suc j < g → Ordered c j (suc j)
  next-ordered c valid j h =
      elim (cases_eq (c.lo (suc j)) (c.lo j)) [
        | inl e ↦ inr (e, valid.ties j h e)
        | inr n ↦ inl (omega (arith, valid.falls j h))
      ]

  ordered-on : (c : Cell) (i j k : ℕ) → Ordered c i j → Ordered c j k → Ordered c i k
  ordered-on c i j k (inl x) (inl y) = inl (omega arith)
  ordered-on c i j k (inl x) (inr y) = inl (omega (arith, y.0))
  ordered-on c i j k (inr x) (inl y) = inl (omega (arith, x.0))
  ordered-on c i j k (inr x) (inr y) =
      inr (y.0 ∙ x.0, first_on (up (c.lo i)) (c.at i) (c.at j) (c.at k) x.1 (subst (λ a. First (up a) (c.at j) (c.at k)) x.0 y.1))

  all-ordered : (c : Cell) → Valid g D up c → (i j : ℕ) → i < j → j < g → Ordered c i j
  all-ordered c valid i zero less h = absurd (omega arith)
  all-ordered c valid i (suc j) less h =
      elim (cases_eq i j) [
        | inl e ↦ subst (λ x. Ordered c x (suc j)) (sym e) (next-ordered c valid j h)
        | inr n ↦ ordered-on c i j (suc j) (all-ordered c valid i j (omega arith) (omega arith)) (next-ordered c valid j h)
      ]

  clash : (a a' : ℕ) (m n : ℕ) → (a' < a) ⊎ ((a' ≡ a) × First (up a) m n) → (a < a') ⊎ ((a ≡ a') × First (up a') n m) → ⊥
  clash a a' m n (inl x) (inl y) = omega arith
  clash a a' m n (inl x) (inr y) = omega (arith, y.0)
  clash a a' m n (inr x) (inl y) = omega (arith, x.0)
  clash a a' m n (inr x) (inr y) = first-not (up a) m n x.1 (subst (λ z. First (up z) n m) x.0 y.1)

  module _ (c d : Cell) (valid : Valid g D up c) (fine : Valid g D up d) (same : (k : ℕ) → k < g → c.lo (c.ord k) ≡ d.lo (d.ord k)) where
    abbrev to : (j : ℕ) → j < g → ℕ
    to j h = d.ord (c.at j)

    to-lo : (j : ℕ) (h : j < g) → c.lo j ≡ d.lo (to j h)
    to-lo j h = ap c.lo (sym (valid.perm.ord-at j h)) ∙ same (c.at j) (valid.perm.at-below j h)

    to_at : (j : ℕ) (h : j < g) → d.at (to j h) ≡ c.at j
    to_at j h = fine.perm.at-ord (c.at j) (valid.perm.at-below j h)

    below : (j : ℕ) (h : j < g) → to j h < g
    below j h = fine.perm.ord-below (c.at j) (valid.perm.at-below j h)

    rises : (j : ℕ) (p : j < g) (q : suc j < g) → to j p < to (suc j) q
    rises j p q =
        elim (cases_order (to j p) (to (suc j) q)) [
          | inl e ↦
              let x : c.at j ≡ c.at (suc j) = sym (to_at j p) ∙ ap d.at e ∙ to_at (suc j) q in
              let y : j ≡ suc j = sym (valid.perm.ord-at j p) ∙ ap c.ord x ∙ valid.perm.ord-at (suc j) q in
              absurd (omega arith)
          | inr (inl less) ↦ less
          | inr (inr more) ↦
              let o = all-ordered d fine (to (suc j) q) (to j p) more (below j p) in
              let P : ℕ → ℕ → ℕ → ℕ → Type 0 = λ a a' m n. (a < a') ⊎ ((a ≡ a') × First (up a') n m) in
              let o1 : P (c.lo j) (d.lo (to (suc j) q)) (d.at (to j p)) (d.at (to (suc j) q)) = subst (λ a. P a (d.lo (to (suc j) q)) (d.at (to j p)) (d.at (to (suc j) q))) (sym (to-lo j p)) o in
              let o2 : P (c.lo j) (c.lo (suc j)) (d.at (to j p)) (d.at (to (suc j) q)) = subst (λ a. P (c.lo j) a (d.at (to j p)) (d.at (to (suc j) q))) (sym (to-lo (suc j) q)) o1 in
              let o3 : P (c.lo j) (c.lo (suc j)) (c.at j) (d.at (to (suc j) q)) = subst (λ a. P (c.lo j) (c.lo (suc j)) a (d.at (to (suc j) q))) (to_at j p) o2 in
              let o4 : P (c.lo j) (c.lo (suc j)) (c.at j) (c.at (suc j)) = subst (λ a. P (c.lo j) (c.lo (suc j)) (c.at j) a) (to_at (suc j) q) o3 in
              absurd (clash (c.lo j) (c.lo (suc j)) (c.at j) (c.at (suc j)) (next-ordered c valid j q) o4)
        ]

    stays : (j : ℕ) (h : j < g) → to j h ≡ j
    stays j h = rising_stays g to below rises j h

    lows : (j : ℕ) → j < g → c.lo j ≡ d.lo j
    lows j h = to-lo j h ∙ ap d.lo (stays j h)

    steps : (j : ℕ) → j < g → c.at j ≡ d.at j
    steps j h = sym (to_at j h) ∙ ap d.at (stays j h)

    pub one_address : Same g c d
    one_address = record { lo = lows; ord = same-ord g c.ord c.at d.ord d.at valid.perm fine.perm steps; at = steps }
