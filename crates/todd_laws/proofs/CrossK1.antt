-- What lies across a place of a cell of K1.
use Rattle.std.specs.Prelude.{◌≡◌, ℕ, zero, suc, ◌+◌, ◌-◌, ◌<◌, ◌≤◌, Bool, true, false, List, ◌∷◌, ◌++◌, length, take, drop, ◌==◌, ◌≢◌, slice_index, refl}
use Rattle.std.proofs.Common.{sym, ◌∙◌, ap, subst, inl, inr, arith}
use Rattle.std.proofs.lemmas.List.{get_or_append_left, get_or-append_right, get_or-drop, get_or-take, length-append, length-take, length-drop}
use Rattle.std.proofs.lemmas.Bool.Decides.{nat_tests}
use Rattle.std.proofs.lemmas.Bool.{cases_eq, both_ways, eqb-false, eq-eqb, ne_eqb, cond-true, cond-false}
use Rattle.cells.specs.Corners.{outer_wall, real_wall, good_wall}
use Rattle.cells.specs.Triangulation.{Shape, moved}
use Rattle.todd_laws.specs.Steps.{nth, shift, stop, or_else, step}
use Rattle.todd_laws.specs.K1.{k1, k1_corner, k1_first, k1_last, k1_middle}
use Rattle.todd_laws.specs.J1.{j1_corner}
use Rattle.todd_laws.proofs.Family as fam
use Rattle.todd_laws.proofs.Family.{Cell, Valid, Same, later, sooner, put, to_end, to_front, across-end, across-middle}
use Rattle.todd_laws.proofs.Bridge.{family, way, least, up_k, Listed, listed-k1-way, k1-corner, length_shift, shift_same, shift-other}
use Rattle.todd_laws.proofs.AcrossLaws.{Shows}
use Rattle.todd_laws.proofs.Crossing.{shape-shows, shows-stop, shows-stops, shows-cond}
use Rattle.todd_laws.proofs.Orders.{end-perm, front-perm}
use Rattle.todd_laws.proofs.Stops.{rise-stop, fall-stop}
use Rattle.todd_laws.proofs.Between.{valid, order_is, value, value-size, nth-is, between}

-- One level moved, as a list and as a function.
pub shift-put : (d : Bool) (v : List ℕ) (u : ℕ → ℕ) (n a x j : ℕ) → n - 1 ≡ a → a < length v → step d (slice_index v a) ≡ x → ((a ≢ j) → slice_index v j ≡ u j) → slice_index (shift d v n) j ≡ put u a x j
shift-put d v u n a x j e h here there = elim (cases_eq j a) [
  | inl q ↦ ap (λ m. slice_index (shift d v n) m) (q ∙ sym e) ∙ shift_same d v n (omega arith) ∙ ap (λ m. step d (slice_index v m)) e ∙ here ∙ sym (cond-true (j == a) x (u j) (eq-eqb j a q))
  | inr q ↦ shift-other d v n j (λ z. q (z ∙ e)) ∙ there (λ z. q (sym z)) ∙ sym (cond-false (j == a) x (u j) (ne_eqb j a q))
]

first-order : (g : ℕ) (p : List ℕ) (o : ℕ → ℕ) → 1 ≤ g → length p ≡ g → ((k : ℕ) → k < g → slice_index p k ≡ suc (o k)) → (k : ℕ) → k < g → slice_index (drop 1 p ++ take 1 p) k ≡ suc (o (later g k))
first-order g p o some size e k h =
    let len : length (drop 1 p) ≡ g - 1 = length-drop 1 p ∙ ap (λ n. n - 1) size in
    elim (cases_eq (suc k) g) [
      | inl q ↦
          let z : k - (g - 1) ≡ 0 = omega arith in
          get_or-append_right (drop 1 p) (take 1 p) (g - 1) k 0 len (omega arith) ∙ ap (λ n. slice_index (take 1 p) n) z ∙ get_or-take 1 p 0 0 (omega arith) ∙ e 0 some
          ∙ ap (λ n. suc (o n)) (sym (cond-true (suc k == g) 0 (suc k) (eq-eqb (suc k) g q)))
      | inr q ↦
          let z : 1 + k ≡ suc k = omega arith in
          get_or_append_left (drop 1 p) (take 1 p) 0 k (omega arith) ∙ get_or-drop 1 p k 0 ∙ ap (λ n. slice_index p n) z ∙ e (suc k) (omega arith)
          ∙ ap (λ n. suc (o n)) (sym (cond-false (suc k == g) 0 (suc k) (ne_eqb (suc k) g q)))
    ]

first-length : (g : ℕ) (p : List ℕ) → 1 ≤ g → length p ≡ g → length (drop 1 p ++ take 1 p) ≡ g
first-length g p some size = length-append (drop 1 p) (take 1 p) ∙ omega (arith, length-drop 1 p, length-take 1 p)

last-order : (g : ℕ) (p : List ℕ) (o : ℕ → ℕ) → 1 ≤ g → ((k : ℕ) → k < g → slice_index p k ≡ suc (o k)) → (k : ℕ) → k < g → slice_index (nth p g ∷ take (g - 1) p) k ≡ suc (o (sooner g k))
last-order g p o some e zero h = e (g - 1) (omega arith)
last-order g p o some e (suc k) h = grind (arith, nat_tests, get_or-take (g - 1) p k 0, e k)

module _ (g D : ℕ) (some : 1 ≤ g) (s : Shape) (l : Listed g D up_k s) (d : Cell) (same : Same g (family s) d) where
  ok : Valid g D up_k d
  ok = valid g D up_k some s l d same

  all_up : (j : ℕ) → way s j ≡ true
  all_up = listed-k1-way g D s l

  base-is : (j : ℕ) → j < g → slice_index s.base j ≡ d.lo j
  base-is j h = ap (λ t. least t (slice_index s.base j)) (sym (all_up j)) ∙ same.lo j h

  above : (k : ℕ) → k ≤ g → (j : ℕ) → j < g → d.lo j ≤ slice_index (j1_corner s k) j
  above k i j h = omega (arith, value g D up_k some s l d same k j i h)

  below : (k : ℕ) → k ≤ g → (j : ℕ) → j < g → slice_index (j1_corner s k) j ≤ suc (d.lo j)
  below k i j h = omega (arith, value g D up_k some s l d same k j i h)

  first : Shows g up_k (or_else (stop D true (k1_corner s g) (nth s.order 1)) (moved (k1_first s) g)) (across-end g up_k true d)
  first = shows-stop g up_k (stop D true (k1_corner s g) (nth s.order 1)) (d.ord 0 == 0) outer_wall (moved (k1_first s) g) (fam.next (to_end g d (d.ord 0) (suc (d.lo (d.ord 0)))) g)
      (ap (λ v. stop D true v (nth s.order 1)) (k1-corner s all_up g) ∙ ap (stop D true (j1_corner s g)) (nth-is g D up_k some s l d same 0 some)
      ∙ rise-stop g D up_k d ok true (d.ord 0) low-a at_a (j1_corner s g) (value-size g D up_k some s l d same g) (above g (omega arith)) (below g (omega arith)) refl
      (value g D up_k some s l d same g (d.ord 0) (omega arith) low-a ∙ omega (arith, at_a))
      (λ j h e. value g D up_k some s l d same g j (omega arith) h ∙ omega (arith, ok.perm.at-below j h)))
      (λ t.
      let r = shape-shows g up_k (k1_first s) (to_end g d (d.ord 0) (suc (d.lo (d.ord 0)))) (end-perm g d.ord d.at ok.perm)
      (length_shift true s.base (nth s.order 1) ∙ l.size) (first-length g s.order some l.order.size) l.directions
      (first-order g s.order d.ord some l.order.size (order_is g D up_k some s l d same))
      (λ j h. ap (λ t. least t (slice_index (shift true s.base (nth s.order 1)) j)) (all_up j)
      ∙ shift-put true s.base d.lo (nth s.order 1) (d.ord 0) (suc (d.lo (d.ord 0))) j (omega (arith, nth-is g D up_k some s l d same 0 some)) (omega (arith, l.size, low-a))
      (omega (arith, base-is (d.ord 0) low-a)) (λ ne. base-is j h))
      (λ j h. sym (all_up j)) (λ j h e. absurd (both_ways (way s j) e (all_up j))) in
      (r.0, r.1, refl))
    where
      low-a : d.ord 0 < g
      low-a = ok.perm.ord-below 0 some

      at_a : d.at (d.ord 0) ≡ 0
      at_a = ok.perm.at-ord 0 some

  last : Shows g up_k (or_else (stop D false s.base (nth s.order g)) (moved (k1_last g s) 0)) (across-end g up_k false d)
  last = shows-stops g up_k (stop D false s.base (nth s.order g)) (d.ord (g - 1) == 0) (d.lo (d.ord (g - 1)) == 0) real_wall (good_wall (suc (d.ord (g - 1)))) (moved (k1_last g s) 0) (fam.next (to_front g d (d.ord (g - 1)) (d.lo (d.ord (g - 1)) - 1)) 0)
      (ap (stop D false s.base) nth-a
      ∙ fall-stop g D up_k d ok false (d.ord (g - 1)) low-a at_a s.base l.size (above 0 (omega arith)) (below 0 (omega arith)) refl
      (base-is (d.ord (g - 1)) low-a) (λ j h e. base-is j h))
      (λ t q.
      let r = shape-shows g up_k (k1_last g s) (to_front g d (d.ord (g - 1)) (d.lo (d.ord (g - 1)) - 1)) (front-perm g d.ord d.at ok.perm)
      (length_shift false s.base (nth s.order g) ∙ l.size) (omega (arith, length-take (g - 1) s.order, l.order.size)) l.directions
      (last-order g s.order d.ord some (order_is g D up_k some s l d same))
      (λ j h. ap (λ t. least t (slice_index (shift false s.base (nth s.order g)) j)) (all_up j)
      ∙ shift-put false s.base d.lo (nth s.order g) (d.ord (g - 1)) (d.lo (d.ord (g - 1)) - 1) j (omega (arith, nth-a)) (omega (arith, l.size, low-a))
      (omega (arith, base-is (d.ord (g - 1)) low-a)) (λ ne. base-is j h))
      (λ j h. sym (all_up j)) (λ j h e. absurd (both_ways (way s j) e (all_up j))) in
      (r.0, r.1, refl))
    where
      low-a : d.ord (g - 1) < g
      low-a = ok.perm.ord-below (g - 1) (omega arith)

      at_a : d.at (d.ord (g - 1)) ≡ g - 1
      at_a = ok.perm.at-ord (g - 1) (omega arith)

      nth-a : nth s.order g ≡ suc (d.ord (g - 1))
      nth-a = order_is g D up_k some s l d same (g - 1) (omega arith)

  middle : (m : ℕ) → suc m < g → Shows g up_k (or_else (stop D true (k1_corner s m) (nth s.order (suc (suc m)))) (moved (k1_middle s (suc m)) (suc m))) (across-middle d m)
  middle m h =
      let n = nth s.order (suc (suc m)) in
      subst (λ o. Shows g up_k (or_else o (moved (k1_middle s (suc m)) (suc m))) (across-middle d m))
      (sym (ap (λ v. stop D true v n) (k1-corner s all_up m) ∙ ap (λ t. stop D t (j1_corner s m) n) (sym (all_up (n - 1)))))
      (between g D up_k some s l d same m h)

  pub crosses : (i : ℕ) → i ≤ g → Shows g up_k ((k1 g D).across s i) (fam.across g up_k d i)
  crosses i h = shows-cond g up_k (i == 0) _ _ _ _ (λ e. first)
      (λ e. shows-cond g up_k (i == g) _ _ _ _ (λ q. last)
      (λ q.
      let p = eqb-false i 0 e in
      let r = eqb-false i g q in
      let z : suc (i - 1) ≡ i = omega arith in
      subst (λ n. Shows g up_k (or_else (stop D true (k1_corner s (i - 1)) (nth s.order (suc n))) (moved (k1_middle s n) n)) (across-middle d (i - 1))) z
      (middle (i - 1) (omega arith))))
