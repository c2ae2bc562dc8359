-- A shape beside a family cell that agrees with it; what lies across a place between two steps.
use Rattle.std.specs.Prelude.{◌≡◌, ℕ, suc, ◌+◌, ◌-◌, ◌<◌, ◌≤◌, min, Bool, true, false, cond, length, Some, None, slice_index, slice_set, refl}
use Rattle.std.proofs.Common.{sym, ◌∙◌, ap, inl, inr, arith}
use Rattle.std.proofs.lemmas.List.{get_or-set_same, get_or-set_other, length-set}
use Rattle.std.proofs.lemmas.Bool.{cases_eq}
use Rattle.cells.specs.Corners.{good_wall}
use Rattle.cells.specs.Triangulation.{Shape, moved}
use Rattle.todd_laws.specs.Steps.{nth, swap_at, stop, or_else}
use Rattle.todd_laws.specs.J1.{j1_corner, upward, j1_middle}
use Rattle.todd_laws.proofs.Family as fam
use Rattle.todd_laws.proofs.Family.{Cell, Valid, Same, swap, swapped, across-middle}
use Rattle.todd_laws.proofs.Bridge.{family, way, Listed, corner-at, corner-size, listed-valid}
use Rattle.todd_laws.proofs.Alike.{valid-like, corner-same}
use Rattle.todd_laws.proofs.AcrossLaws.{Shows}
use Rattle.todd_laws.proofs.Orders.{swap-perm, swap-here, swap-next, swap-else}
use Rattle.todd_laws.proofs.Crossing.{shape-shows, shows-stop}
use Rattle.todd_laws.proofs.Ties.{tied}
use Rattle.todd_laws.proofs.Stops.{mid-up, mid-down}

module _ (g D : ℕ) (up : ℕ → Bool) (some : 1 ≤ g) (s : Shape) (l : Listed g D up s) (d : Cell) (same : Same g (family s) d) where
  pub valid : Valid g D up d
  valid = valid-like g D up (family s) d some (listed-valid g D up some s l) same

  pub order_is : (k : ℕ) → k < g → slice_index s.order k ≡ suc (d.ord k)
  order_is k h = omega (arith, same.ord k h, l.order.low k h)

  pub value : (k j : ℕ) → k ≤ g → j < g → slice_index (j1_corner s k) j ≡ fam.corner up d k j
  value k j h i = corner-at g D up s l k j h i ∙ corner-same g up (family s) d same k j i

  pub value-size : (k : ℕ) → length (j1_corner s k) ≡ g
  value-size k = corner-size g s l.size l.order l.solid k

  pub way-is : (j : ℕ) → j < g → way s j ≡ up (d.lo j)
  way-is j h = sym (l.ways j h) ∙ ap up (same.lo j h)

  -- The level that moves at step k, as the pages write it.
  pub nth-is : (k : ℕ) → k < g → nth s.order (suc k) ≡ suc (d.ord k)
  nth-is k h = let e : suc k - 1 ≡ k = omega arith in ap (λ n. slice_index s.order n) e ∙ order_is k h

  pub upward-is : (k : ℕ) → k < g → upward s (nth s.order (suc k)) ≡ up (d.lo (d.ord k))
  upward-is k h =
      let e : suc (d.ord k) - 1 ≡ d.ord k = omega arith in
      ap (λ n. way s (n - 1)) (nth-is k h) ∙ ap (way s) e ∙ way-is (d.ord k) (valid.perm.ord-below k h)

  swapped-order : (m : ℕ) → suc m < g → (k : ℕ) → k < g → slice_index (swap_at s.order (suc m)) k ≡ suc (d.ord (swap m k))
  swapped-order m h k i =
      let p = s.order in
      let e : suc m - 1 ≡ m = omega arith in
      let q : suc m + 1 - 1 ≡ suc m = omega arith in
      let len : length (slice_set p (suc m - 1) (nth p (suc m + 1))) ≡ g = length-set p (suc m - 1) (nth p (suc m + 1)) ∙ l.order.size in
      elim (cases_eq k (suc m)) [
        | inl z ↦ ap (λ n. slice_index (swap_at p (suc m)) n) z ∙ get_or-set_same (slice_set p (suc m - 1) (nth p (suc m + 1))) (suc m) (nth p (suc m)) 0 (omega arith)
            ∙ nth-is m (omega arith) ∙ ap (λ n. suc (d.ord n)) (sym (ap (swap m) z ∙ swap-next m))
        | inr ne ↦ get_or-set_other (slice_set p (suc m - 1) (nth p (suc m + 1))) (suc m) k (nth p (suc m)) 0 ne ∙ elim (cases_eq k m) [
          | inl z ↦
              let z1 : k ≡ suc m - 1 = omega arith in
              ap (λ n. slice_index (slice_set p (suc m - 1) (nth p (suc m + 1))) n) z1 ∙ get_or-set_same p (suc m - 1) (nth p (suc m + 1)) 0 (omega (arith, l.order.size))
              ∙ ap (λ n. slice_index p n) q ∙ order_is (suc m) h ∙ ap (λ n. suc (d.ord n)) (sym (ap (swap m) z ∙ swap-here m))
          | inr no2 ↦ get_or-set_other p (suc m - 1) k (nth p (suc m + 1)) 0 (λ z. no2 (omega arith)) ∙ order_is k i ∙ ap (λ n. suc (d.ord n)) (sym (swap-else m k no2 ne))
        ]
      ]

  pub between : (m : ℕ) → suc m < g
      → Shows g up (or_else (stop D (upward s (nth s.order (suc (suc m)))) (j1_corner s m) (nth s.order (suc (suc m)))) (moved (j1_middle s (suc m)) (suc m))) (across-middle d m)
  between m h = shows-stop g up (stop D (upward s (nth s.order (suc (suc m)))) (j1_corner s m) (nth s.order (suc (suc m)))) (tied d.lo (d.ord m) (d.ord (suc m))) (good_wall (suc (min (d.ord m) (d.ord (suc m)))))
      (moved (j1_middle s (suc m)) (suc m)) (fam.next (swapped d m) (suc m))
      (ap (λ n. stop D (upward s (nth s.order (suc (suc m)))) (j1_corner s m) n) (nth-is (suc m) h) ∙ ap (λ t. stop D t (j1_corner s m) (suc (d.ord (suc m)))) (upward-is (suc m) h) ∙ stopped (up (d.lo (d.ord (suc m)))) refl)
      (λ t.
      let r = shape-shows g up (j1_middle s (suc m)) (swapped d m) (swap-perm g d.ord d.at valid.perm m h)
      l.size (length-set (slice_set s.order (suc m - 1) (nth s.order (suc m + 1))) (suc m) (nth s.order (suc m)) ∙ length-set s.order (suc m - 1) (nth s.order (suc m + 1)) ∙ l.order.size) l.directions
      (swapped-order m h) same.lo (λ j i. sym (way-is j i)) l.solid in
      (r.0, r.1, refl))
    where
      stopped : (u : Bool) → up (d.lo (d.ord (suc m))) ≡ u → stop D u (j1_corner s m) (suc (d.ord (suc m))) ≡ cond (tied d.lo (d.ord m) (d.ord (suc m))) (Some (good_wall (suc (min (d.ord m) (d.ord (suc m)))))) None
      stopped true e = mid-up g D up d valid m (d.ord m) (d.ord (suc m)) h (valid.perm.ord-below m (omega arith)) (valid.perm.ord-below (suc m) h)
          (valid.perm.at-ord m (omega arith)) (valid.perm.at-ord (suc m) h) (j1_corner s m) (value-size m) (λ j i. value m j (omega arith) i) e
      stopped false e = mid-down g D up d valid m (d.ord m) (d.ord (suc m)) h (valid.perm.ord-below m (omega arith)) (valid.perm.ord-below (suc m) h)
          (valid.perm.at-ord m (omega arith)) (valid.perm.at-ord (suc m) h) (j1_corner s m) (value-size m) (λ j i. value m j (omega arith) i) e
