-- What lies across a place between two steps.
use Rattle.std.specs.Prelude.{◌≡◌, ℕ, suc, ◌-◌, ◌<◌, ◌≤◌, min, Bool, true, false, ◌⊎◌, ◌==◌, ◌≢◌, refl}
use Rattle.std.proofs.Common.{sym, ◌∙◌, ap, subst, inl, inr, arith}
use Rattle.std.proofs.lemmas.Bool.Decides.{nat_tests}
use Rattle.std.proofs.lemmas.Bool.{cases_Bool, cond-true, cond-false, ne_eqb, both_ways}
use Rattle.cells.specs.Corners.{good_wall, skip}
use Rattle.todd_laws.proofs.Family.{level, Cell, corner, First, Valid, next, swap, swapped, across, across-end, across-middle, AllOn, Same, Back, Next, Right}
use Rattle.todd_laws.proofs.Ties.{tied, tied-turned, tied-after, tied-before, tied-cases}
use Rattle.todd_laws.proofs.Orders.{swap-here, swap-next, swap-twice, swap-perm}
use Rattle.todd_laws.proofs.Starts.{under-in}
use Rattle.todd_laws.proofs.Walls.{Neighbours, no-wall-holds}

swap-level : (v : Bool) (a m q k : ℕ) → (k ≢ suc m) → level v a q k ≡ level v a (swap m q) k
swap-level true a m q k n = grind (arith, nat_tests)
swap-level false a m q k n = grind (arith, nat_tests)

-- Two steps keep their order, if they are not the two that change places.
swap-less : (m p q : ℕ) → (p ≡ m → q ≢ suc m) → p < q → swap m p < swap m q
swap-less m p q n h = grind (arith, nat_tests)

swap-order : (v : Bool) (m p q : ℕ) → (p ≡ m → q ≢ suc m) → (q ≡ m → p ≢ suc m) → First v p q → First v (swap m p) (swap m q)
swap-order true m p q n o h = swap-less m p q n h
swap-order false m p q n o h = swap-less m q p o h

-- Two neighbouring levels, as high, with neighbouring steps are alike but between their steps.
step-alike : (v : Bool) (a m k : ℕ) → (k ≢ suc m) → level v a m k ≡ level v a (suc m) k
step-alike true a m k n = omega arith
step-alike false a m k n = omega arith

-- Between two steps `across` is `across-middle`.
pub across-between : (g : ℕ) (up : ℕ → Bool) (c : Cell) (m : ℕ) → suc m < g → across g up c (suc m) ≡ across-middle c m
across-between g up c m h =
    cond-false (suc m == 0) (across-end g up true c) _ (ne_eqb (suc m) 0 (λ e. omega arith))
    ∙ cond-false (suc m == g) (across-end g up false c) _ (ne_eqb (suc m) g (λ e. omega arith))
    ∙ ap (across-middle c) (let e : suc m - 1 ≡ m = omega arith in e)

middle-next : (c : Cell) (m a b : ℕ) → c.ord m ≡ a → c.ord (suc m) ≡ b → tied c.lo a b ≡ false → across-middle c m ≡ next (swapped c m) (suc m)
middle-next c m a b p q h =
    cond-false (tied c.lo (c.ord m) (c.ord (suc m))) _ _ (subst (λ x. tied c.lo x (c.ord (suc m)) ≡ false) (sym p) (subst (λ x. tied c.lo a x ≡ false) (sym q) h))

module _ (g D : ℕ) (up : ℕ → Bool) (some : 1 ≤ g) (c : Cell) (valid : Valid g D up c) (m : ℕ) (h : suc m < g) where
  abbrev a : ℕ
  a = c.ord m

  abbrev b : ℕ
  b = c.ord (suc m)

  low : m < g
  low = omega arith

  -- The wall of two levels j and j + 1 that move at m and m + 1 in either order.
  pair-wall : (j : ℕ) → suc j < g → c.lo j ≡ c.lo (suc j) → ((c.at j ≡ m) × (c.at (suc j) ≡ suc m)) ⊎ ((c.at j ≡ suc m) × (c.at (suc j) ≡ m))
      → AllOn g D up c (suc m) (good_wall (suc j))
  pair-wall j l e w k within n =
      let v = up (c.lo j) in
      let x : level v (c.lo j) (c.at j) k ≡ level v (c.lo j) (c.at (suc j)) k =
      elim w [
        | inl t ↦ ap (λ z. level v (c.lo j) z k) t.0 ∙ step-alike v (c.lo j) m k n ∙ ap (λ z. level v (c.lo j) z k) (sym t.1)
        | inr t ↦ ap (λ z. level v (c.lo j) z k) t.0 ∙ sym (step-alike v (c.lo j) m k n) ∙ ap (λ z. level v (c.lo j) z k) (sym t.1)
      ] in
      let y : corner up c k j ≡ corner up c k (suc j) = x ∙ ap (λ z. level (up z) z (c.at (suc j)) k) e in
      let o : suc j - 1 ≡ j = omega arith in
      (omega arith, omega arith, ap (corner up c k) o ∙ y ∙ sym (under-in g (corner up c k) (suc j) l))

  middle-wall : tied c.lo a b ≡ true → AllOn g D up c (suc m) (good_wall (suc (min a b)))
  middle-wall t =
      let x = tied-cases c.lo a b t in
      let p = valid.perm.ord-below m low in
      let q = valid.perm.ord-below (suc m) h in
      let s = valid.perm.at-ord m low in
      let r = valid.perm.at-ord (suc m) h in
      elim x.1 [
        | inl e ↦
            let z : a ≡ min a b = omega arith in
            subst (λ j. AllOn g D up c (suc m) (good_wall (suc j))) z
            (pair-wall a (omega arith) (x.0 ∙ ap c.lo e) (inl (s, ap c.at (sym e) ∙ r)))
        | inr e ↦
            let z : b ≡ min a b = omega arith in
            subst (λ j. AllOn g D up c (suc m) (good_wall (suc j))) z
            (pair-wall b (omega arith) (sym x.0 ∙ ap c.lo e) (inr (r, ap c.at (sym e) ∙ s)))
      ]

  module _ (free : tied c.lo a b ≡ false) where
    abbrev d : Cell
    d = swapped c m

    -- No two neighbouring levels as high move at the two steps.
    not-here : (j : ℕ) → suc j < g → c.lo j ≡ c.lo (suc j) → c.at j ≡ m → c.at (suc j) ≢ suc m
    not-here j l e x y =
        let p : j ≡ a = sym (valid.perm.ord-at j (omega arith)) ∙ ap c.ord x in
        let q : suc j ≡ b = sym (valid.perm.ord-at (suc j) l) ∙ ap c.ord y in
        both_ways (tied c.lo a b) free (subst (λ z. tied c.lo z b ≡ true) p (subst (λ z. tied c.lo j z ≡ true) q (tied-after c.lo j (suc j) e refl)))

    not_there : (j : ℕ) → suc j < g → c.lo j ≡ c.lo (suc j) → c.at (suc j) ≡ m → c.at j ≢ suc m
    not_there j l e x y =
        let p : suc j ≡ a = sym (valid.perm.ord-at (suc j) l) ∙ ap c.ord x in
        let q : j ≡ b = sym (valid.perm.ord-at j (omega arith)) ∙ ap c.ord y in
        both_ways (tied c.lo a b) free (subst (λ z. tied c.lo z b ≡ true) p (subst (λ z. tied c.lo (suc j) z ≡ true) q (tied-before c.lo (suc j) j (sym e) refl)))

    d-valid : Valid g D up d
    d-valid =
        record {
          perm = swap-perm g c.ord c.at valid.perm m h;
          top = valid.top;
          falls = valid.falls;
          ties = λ j l e. swap-order (up (c.lo j)) m (c.at j) (c.at (suc j)) (not-here j l (sym e)) (not_there j l (sym e)) (valid.ties j l e);
        }

    skips : (k : ℕ) → skip (suc m) k ≢ suc m
    skips k e = grind (arith, nat_tests)

    d-differs : Same g c d → ⊥
    d-differs same =
        let x : a ≡ b = same.ord m low ∙ ap c.ord (swap-here m) in
        let y : m ≡ suc m = sym (valid.perm.at-ord m low) ∙ ap c.at x ∙ valid.perm.at-ord (suc m) h in
        omega arith

    back-same : Same g (swapped d m) c
    back-same = record { lo = λ j l. refl; ord = λ k l. ap c.ord (swap-twice m k); at = λ j l. swap-twice m (c.at j) }

    d-back : Back g c (suc m) (across g up d (suc m))
    d-back =
        subst (λ s. Back g c (suc m) s)
        (sym (across-between g up d m h ∙ middle-next d m b a (ap c.ord (swap-here m)) (ap c.ord (swap-next m)) (tied-turned c.lo a b free)))
        (back-same, refl)

    d-between : (j : ℕ) → suc j < g → Neighbours (suc m) (c.lo j) (c.at j) (c.lo (suc j)) (c.at (suc j)) → ⊥
    d-between j l n =
        elim n.near [
          | inl x ↦ not-here j l n.low (omega (arith, x.0)) (omega (arith, x.0, x.1))
          | inr x ↦ not_there j l n.low (omega (arith, x.0)) (omega (arith, x.0, x.1))
        ]

    middle-side : Next g D up c (suc m) d (suc m)
    middle-side =
        record {
          valid = d-valid;
          within = omega arith;
          kept = λ k l p q. swap-level (up (c.lo l)) (c.lo l) m (c.at l) (skip (suc m) k) (skips k);
          differs = d-differs;
          back = d-back;
          no-wall =
              no-wall-holds g D up some c valid (suc m) (omega arith)
              (λ x. elim x [ inl y ↦ omega (arith, y.0) | inr y ↦ omega (arith, y.0) ])
              (λ j e x. elim x.way [ inl y ↦ omega (arith, y.0) | inr y ↦ omega (arith, y.0) ])
              d-between;
        }

  pub middle-right : Right g D up c (suc m) (across g up c (suc m))
  middle-right =
      subst (λ s. Right g D up c (suc m) s) (sym (across-between g up c m h))
      (elim (cases_Bool (tied c.lo a b)) [
        | inl t ↦ subst (λ s. Right g D up c (suc m) s) (sym (cond-true (tied c.lo a b) _ _ t)) (middle-wall t)
        | inr t ↦ subst (λ s. Right g D up c (suc m) s) (sym (cond-false (tied c.lo a b) _ _ t)) (middle-side t)
      ])
