-- What lies across a place of a cell of J1.
use Rattle.std.specs.Prelude.{◌≡◌, ℕ, suc, ◌-◌, ◌%◌, ◌<◌, ◌≤◌, Bool, true, false, cond, not, List, length, get_or, ◌==◌, ◌≢◌, slice_index, slice_index_or, refl}
use Rattle.std.proofs.Common.{sym, ◌∙◌, ap, subst, inl, inr, arith}
use Rattle.std.proofs.Math.Bool.{not-not}
use Rattle.std.proofs.lemmas.List.{get_or-set_same, get_or-set_other, length-set}
use Rattle.std.proofs.lemmas.Bool.{not-true, not-false, cases_eq, cases_Bool, both_ways, eqb-false, eq-eqb, ne_eqb, cond-true, cond-false}
use Rattle.cells.specs.Corners.{outer_wall, real_wall, good_wall}
use Rattle.cells.specs.Triangulation.{Shape, moved}
use Rattle.todd_laws.specs.Steps.{nth, shift, stop, or_else, step}
use Rattle.todd_laws.specs.J1.{j1, j1_corner, upward, j1_first, j1_last, j1_middle, turned}
use Rattle.todd_laws.proofs.Family as fam
use Rattle.todd_laws.proofs.Family.{Cell, Valid, Same, put, stays, gets, end, place, across-end, across-middle}
use Rattle.todd_laws.proofs.Shifts.{end_below}
use Rattle.todd_laws.proofs.Bridge.{family, way, least, up_j, Listed, Formed, length_shift, shift_same, shift-other}
use Rattle.todd_laws.proofs.AcrossLaws.{Shows}
use Rattle.todd_laws.proofs.Crossing.{shape-shows, shows-stop, shows-stops, shows-cond}
use Rattle.todd_laws.proofs.Stops.{rise-stop, fall-stop, level-low, level-high, level-up, level-down}
use Rattle.todd_laws.proofs.Between.{valid, order_is, value, value-size, way-is, nth-is, upward-is, between}

-- The direction turns with each step of the smaller value.
pub turns : (n : ℕ) → up_j (suc n) ≡ not (up_j n)
turns n = elim (cases_eq (n % 2) 1) [
  | inl e ↦ ne_eqb (suc n % 2) 1 (λ q. omega arith) ∙ ap not (sym (eq-eqb (n % 2) 1 e))
  | inr e ↦ eq-eqb (suc n % 2) 1 (omega arith) ∙ ap not (sym (ne_eqb (n % 2) 1 e))
]

turns_down : (n : ℕ) → (n ≢ 0) → up_j (n - 1) ≡ not (up_j n)
turns_down n h = let e : suc (n - 1) ≡ n = omega arith in sym (not-not (up_j (n - 1))) ∙ ap not (sym (turns (n - 1))) ∙ ap (λ m. not (up_j m)) e

same_not : (b : Bool) → fam.same (not b) b ≡ false
same_not true = refl
same_not false = refl

-- A level whose direction turns stays at its end.
gets-stays : (g : ℕ) (w : Bool) (d : Cell) (a x : ℕ) → up_j x ≡ not (up_j (d.lo a)) → gets g up_j w d a x ≡ fam.next (stays d a x) (place g w)
gets-stays g true d a x e = ap (λ t. fam.next (fam.moved g true (cond t false true) d a x) (place g (cond t false true))) (ap (λ b. fam.same b (up_j (d.lo a))) e ∙ same_not (up_j (d.lo a)))
gets-stays g false d a x e = ap (λ t. fam.next (fam.moved g false (cond t true false) d a x) (place g (cond t true false))) (ap (λ b. fam.same b (up_j (d.lo a))) e ∙ same_not (up_j (d.lo a)))

module _ (g : ℕ) (w : Bool) (d : Cell) where
  rises : fam.same (up_j (d.lo (d.ord (end g w)))) w ≡ true
      → across-end g up_j w d ≡ cond (d.ord (end g w) == 0) (fam.wall outer_wall) (fam.next (stays d (d.ord (end g w)) (suc (d.lo (d.ord (end g w))))) (place g w))
  rises e =
      let a = d.ord (end g w) in
      let x = d.lo a in
      cond-true (fam.same (up_j x) w) (cond (a == 0) (fam.wall outer_wall) (gets g up_j w d a (suc x)))
      (cond (a == 0) (fam.wall real_wall) (cond (x == 0) (fam.wall (good_wall (suc a))) (gets g up_j w d a (x - 1)))) e
      ∙ ap (λ y. cond (a == 0) (fam.wall outer_wall) y) (gets-stays g w d a (suc x) (turns x))

  falls : fam.same (up_j (d.lo (d.ord (end g w)))) w ≡ false
      → across-end g up_j w d ≡ cond (d.ord (end g w) == 0) (fam.wall real_wall)
      (cond (d.lo (d.ord (end g w)) == 0) (fam.wall (good_wall (suc (d.ord (end g w))))) (fam.next (stays d (d.ord (end g w)) (d.lo (d.ord (end g w)) - 1)) (place g w)))
  falls e =
      let a = d.ord (end g w) in
      let x = d.lo a in
      cond-false (fam.same (up_j x) w) (cond (a == 0) (fam.wall outer_wall) (gets g up_j w d a (suc x)))
      (cond (a == 0) (fam.wall real_wall) (cond (x == 0) (fam.wall (good_wall (suc a))) (gets g up_j w d a (x - 1)))) e
      ∙ ap (λ y. cond (a == 0) (fam.wall real_wall) y) (elim (cases_eq x 0) [
        | inl q ↦ cond-true (x == 0) (fam.wall (good_wall (suc a))) (gets g up_j w d a (x - 1)) (eq-eqb x 0 q)
            ∙ sym (cond-true (x == 0) (fam.wall (good_wall (suc a))) (fam.next (stays d a (x - 1)) (place g w)) (eq-eqb x 0 q))
        | inr q ↦ ap (λ y. cond (x == 0) (fam.wall (good_wall (suc a))) y) (gets-stays g w d a (x - 1) (turns_down x q))
      ])

same_first : (u : Bool) → fam.same u true ≡ u
same_first true = refl
same_first false = refl

same-last : (u : Bool) → fam.same u false ≡ not u
same-last true = refl
same-last false = refl

twice-rise : (u : Bool) (b x : ℕ) → u ≡ true → least u b ≡ x → least (not u) (step u (step u b)) ≡ suc x
twice-rise true b x e h = omega arith
twice-rise false b x e h = absurd (both_ways false refl e)

twice-fall : (u : Bool) (b x : ℕ) → u ≡ false → least u b ≡ x → least (not u) (step u (step u b)) ≡ x - 1
twice-fall true b x e h = absurd (both_ways true e refl)
twice-fall false b x e h = omega arith

twice-firm : (u : Bool) (b : ℕ) → not u ≡ false → 1 ≤ step u (step u b)
twice-firm true b e = omega arith
twice-firm false b e = absurd (both_ways true e refl)

turn-rise : (u : Bool) (b x : ℕ) → u ≡ false → (u ≡ false → 1 ≤ b) → least u b ≡ x → least (not u) b ≡ suc x
turn-rise true b x e s h = absurd (both_ways true e refl)
turn-rise false b x e s h = omega (arith, s refl)

turn-fall : (u : Bool) (b x : ℕ) → u ≡ true → least u b ≡ x → least (not u) b ≡ x - 1
turn-fall true b x e h = omega arith
turn-fall false b x e h = absurd (both_ways false refl e)

turn-firm : (u : Bool) (b : ℕ) → u ≡ false → not u ≡ false → 1 ≤ b
turn-firm true b e h = absurd (both_ways true e refl)
turn-firm false b e h = absurd (both_ways true h refl)

turn-solid : (u : Bool) (b x : ℕ) → (x ≢ 0) → least u b ≡ x → 1 ≤ b
turn-solid true b x ne h = omega arith
turn-solid false b x ne h = omega arith

module _ (g D : ℕ) (some : 1 ≤ g) (s : Shape) (l : Listed g D up_j s) (d : Cell) (same : Same g (family s) d) where
  ok : Valid g D up_j d
  ok = valid g D up_j some s l d same

  -- The level a gets the base that b has there, and its direction turns.
  turned-shows : (b : List ℕ) (n a x : ℕ) → n - 1 ≡ a → a < g → upward s n ≡ up_j (d.lo a) → length b ≡ g → ((j : ℕ) → j < g → (j ≢ a) → slice_index b j ≡ slice_index s.base j)
      → least (not (up_j (d.lo a))) (slice_index b a) ≡ x → up_j x ≡ not (up_j (d.lo a)) → (not (up_j (d.lo a)) ≡ false → 1 ≤ slice_index b a)
      → Formed g up_j (record { base = b; order = s.order; ups = turned s n }) × Same g (family (record { base = b; order = s.order; ups = turned s n })) (stays d a x)
  turned-shows b n a x e low u size else here turn solid =
      shape-shows g up_j (record { base = b; order = s.order; ups = turned s n }) (stays d a x) ok.perm size l.order.size (length-set s.ups (n - 1) (not (upward s n)) ∙ l.directions)
      (order_is g D up_j some s l d same) lo ways firm
    where
      way_a : get_or (turned s n) a true ≡ not (up_j (d.lo a))
      way_a = ap (λ m. get_or (turned s n) m true) (sym e) ∙ get_or-set_same s.ups (n - 1) (not (upward s n)) true (omega (arith, l.directions)) ∙ ap not u

      way-else : (j : ℕ) → (j ≢ a) → slice_index_or (turned s n) j true ≡ way s j
      way-else j ne = get_or-set_other s.ups (n - 1) j (not (upward s n)) true (λ z. ne (z ∙ e))

      lo : (j : ℕ) → j < g → least (slice_index_or (turned s n) j true) (slice_index b j) ≡ put d.lo a x j
      lo j h = elim (cases_eq j a) [
        | inl q ↦ ap (λ m. least (slice_index_or (turned s n) m true) (slice_index b m)) q ∙ ap (λ t. least t (slice_index b a)) way_a ∙ here ∙ sym (cond-true (j == a) x (d.lo j) (eq-eqb j a q))
        | inr ne ↦ ap (λ t. least t (slice_index b j)) (way-else j ne) ∙ ap (least (way s j)) (else j h ne) ∙ same.lo j h ∙ sym (cond-false (j == a) x (d.lo j) (ne_eqb j a ne))
      ]

      ways : (j : ℕ) → j < g → up_j (put d.lo a x j) ≡ slice_index_or (turned s n) j true
      ways j h = elim (cases_eq j a) [
        | inl q ↦ ap up_j (cond-true (j == a) x (d.lo j) (eq-eqb j a q)) ∙ turn ∙ sym way_a ∙ ap (λ m. get_or (turned s n) m true) (sym q)
        | inr ne ↦ ap up_j (cond-false (j == a) x (d.lo j) (ne_eqb j a ne)) ∙ sym (way-is g D up_j some s l d same j h) ∙ sym (way-else j ne)
      ]

      firm : (j : ℕ) → j < g → slice_index_or (turned s n) j true ≡ false → 1 ≤ slice_index b j
      firm j h z = elim (cases_eq j a) [
        | inl q ↦ subst (λ m. 1 ≤ slice_index b m) (sym q) (solid (sym way_a ∙ ap (λ m. get_or (turned s n) m true) (sym q) ∙ z))
        | inr ne ↦ omega (arith, else j h ne, l.solid j h (sym (way-else j ne) ∙ z))
      ]

  low_end : (w : Bool) → d.ord (end g w) < g
  low_end w = ok.perm.ord-below (end g w) (end_below g w some)

  at-end : (w : Bool) → d.at (d.ord (end g w)) ≡ end g w
  at-end w = ok.perm.at-ord (end g w) (end_below g w some)

  -- Another level moves at another step.
  else-at : (w : Bool) (j : ℕ) → j < g → (d.lo j ≢ d.lo (d.ord (end g w))) → d.at j ≢ end g w
  else-at w j h ne e = ne (ap d.lo (sym (ok.perm.ord-at j h) ∙ ap d.ord e))

  -- At an end: the corner at q stays, and tells whether the level there can move.
  ended : (w : Bool) (q : ℕ) (t : Shape) → q ≤ g
      → (fam.same (up_j (d.lo (d.ord (end g w)))) w ≡ true → slice_index (j1_corner s q) (d.ord (end g w)) ≡ suc (d.lo (d.ord (end g w))))
      → (fam.same (up_j (d.lo (d.ord (end g w)))) w ≡ true → (j : ℕ) → j < g → d.lo j ≡ suc (d.lo (d.ord (end g w))) → slice_index (j1_corner s q) j ≡ suc (suc (d.lo (d.ord (end g w)))))
      → (fam.same (up_j (d.lo (d.ord (end g w)))) w ≡ false → slice_index (j1_corner s q) (d.ord (end g w)) ≡ d.lo (d.ord (end g w)))
      → (fam.same (up_j (d.lo (d.ord (end g w)))) w ≡ false → (j : ℕ) → j < g → suc (d.lo j) ≡ d.lo (d.ord (end g w)) → slice_index (j1_corner s q) j ≡ d.lo j)
      → (fam.same (up_j (d.lo (d.ord (end g w)))) w ≡ true → Formed g up_j t × Same g (family t) (stays d (d.ord (end g w)) (suc (d.lo (d.ord (end g w))))))
      → (fam.same (up_j (d.lo (d.ord (end g w)))) w ≡ false → (d.lo (d.ord (end g w)) ≢ 0) → Formed g up_j t × Same g (family t) (stays d (d.ord (end g w)) (d.lo (d.ord (end g w)) - 1)))
      → Shows g up_j (or_else (stop D (fam.same (up_j (d.lo (d.ord (end g w)))) w) (j1_corner s q) (suc (d.ord (end g w)))) (moved t (place g w))) (across-end g up_j w d)
  ended w q t h rise rise-next fall fall-next rose fell =
      let a = d.ord (end g w) in
      let x = d.lo a in
      let low : (j : ℕ) → j < g → d.lo j ≤ get_or (j1_corner s q) j 0 = λ j i. omega (arith, value g D up_j some s l d same q j h i, level-low (up_j (d.lo j)) (d.lo j) (d.at j) q) in
      let high : (j : ℕ) → j < g → slice_index (j1_corner s q) j ≤ suc (d.lo j) = λ j i. omega (arith, value g D up_j some s l d same q j h i, level-high (up_j (d.lo j)) (d.lo j) (d.at j) q) in
      elim (cases_Bool (fam.same (up_j x) w)) [
        | inl e ↦
            subst (λ b. Shows g up_j (or_else (stop D b (j1_corner s q) (suc a)) (moved t (place g w))) (across-end g up_j w d)) (sym e)
            (subst (Shows g up_j (or_else (stop D true (j1_corner s q) (suc a)) (moved t (place g w)))) (sym (rises g w d e))
            (shows-stop g up_j (stop D true (j1_corner s q) (suc a)) (a == 0) outer_wall (moved t (place g w)) (fam.next (stays d a (suc x)) (place g w))
            (rise-stop g D up_j d ok w a (low_end w) (at-end w) (j1_corner s q) (value-size g D up_j some s l d same q) low high e (rise e) (rise-next e))
            (λ z. let r = rose e in (r.0, r.1, refl))))
        | inr e ↦
            subst (λ b. Shows g up_j (or_else (stop D b (j1_corner s q) (suc a)) (moved t (place g w))) (across-end g up_j w d)) (sym e)
            (subst (Shows g up_j (or_else (stop D false (j1_corner s q) (suc a)) (moved t (place g w)))) (sym (falls g w d e))
            (shows-stops g up_j (stop D false (j1_corner s q) (suc a)) (a == 0) (x == 0) real_wall (good_wall (suc a)) (moved t (place g w)) (fam.next (stays d a (x - 1)) (place g w))
            (fall-stop g D up_j d ok w a (low_end w) (at-end w) (j1_corner s q) (value-size g D up_j some s l d same q) low high e (fall e) (fall-next e))
            (λ z y. let r = fell e (eqb-false x 0 y) in (r.0, r.1, refl))))
      ]

  base-way : (a : ℕ) → a < g → least (up_j (d.lo a)) (slice_index s.base a) ≡ d.lo a
  base-way a h = ap (λ t. least t (slice_index s.base a)) (sym (way-is g D up_j some s l d same a h)) ∙ same.lo a h

  base-solid : (a : ℕ) → a < g → up_j (d.lo a) ≡ false → 1 ≤ slice_index s.base a
  base-solid a h e = l.solid a h (way-is g D up_j some s l d same a h ∙ e)

  down-from : (j x : ℕ) → suc (d.lo j) ≡ x → up_j (d.lo j) ≡ not (up_j x)
  down-from j x e = sym (not-not (up_j (d.lo j))) ∙ ap not (sym (turns (d.lo j))) ∙ ap (λ m. not (up_j m)) e

  up_from : (j x : ℕ) → d.lo j ≡ suc x → up_j (d.lo j) ≡ not (up_j x)
  up_from j x e = ap up_j e ∙ turns x

  twice : (u : Bool) (n a : ℕ) → n - 1 ≡ a → a < g → slice_index (shift u (shift u s.base n) n) a ≡ step u (step u (slice_index s.base a))
  twice u n a e h =
      ap (λ m. slice_index (shift u (shift u s.base n) n) m) (sym e)
      ∙ shift_same u (shift u s.base n) n (omega (arith, length_shift u s.base n, l.size))
      ∙ ap (step u) (shift_same u s.base n (omega (arith, l.size)))
      ∙ ap (λ m. step u (step u (slice_index s.base m))) e

  twice-shows : (n a x : ℕ) → n - 1 ≡ a → a < g → upward s n ≡ up_j (d.lo a) → least (not (up_j (d.lo a))) (step (up_j (d.lo a)) (step (up_j (d.lo a)) (slice_index s.base a))) ≡ x
      → up_j x ≡ not (up_j (d.lo a))
      → Formed g up_j (record { base = shift (upward s n) (shift (upward s n) s.base n) n; order = s.order; ups = turned s n })
      × Same g (family (record { base = shift (upward s n) (shift (upward s n) s.base n) n; order = s.order; ups = turned s n })) (stays d a x)
  twice-shows n a x e h u here turn = turned-shows (shift (upward s n) (shift (upward s n) s.base n) n) n a x e h u
      (length_shift (upward s n) (shift (upward s n) s.base n) n ∙ length_shift (upward s n) s.base n ∙ l.size)
      (λ j i ne. shift-other (upward s n) (shift (upward s n) s.base n) n j (λ z. ne (z ∙ e)) ∙ shift-other (upward s n) s.base n j (λ z. ne (z ∙ e)))
      (ap (least (not (up_j (d.lo a)))) (twice (upward s n) n a e h ∙ ap (λ t. step t (step t (slice_index s.base a))) u) ∙ here) turn
      (λ z. subst (λ m. 1 ≤ m) (sym (twice (upward s n) n a e h ∙ ap (λ t. step t (step t (slice_index s.base a))) u)) (twice-firm (up_j (d.lo a)) (slice_index s.base a) z))

  first : Shows g up_j (or_else (stop D (upward s (nth s.order 1)) (j1_corner s 1) (nth s.order 1)) (moved (j1_first s) 0)) (across-end g up_j true d)
  first =
      let n = nth s.order 1 in
      let a = d.ord 0 in
      let x = d.lo a in
      let e : n ≡ suc a = nth-is g D up_j some s l d same 0 some in
      let p : n - 1 ≡ a = omega arith in
      let u : upward s n ≡ up_j x = upward-is g D up_j some s l d same 0 some in
      let h : a < g = low_end true in
      let at_a : d.at a ≡ 0 = at-end true in
      subst (λ o. Shows g up_j (or_else o (moved (j1_first s) 0)) (across-end g up_j true d))
      (sym (ap (λ t. stop D t (j1_corner s 1) n) (u ∙ sym (same_first (up_j x))) ∙ ap (stop D (fam.same (up_j x) true) (j1_corner s 1)) e))
      (ended true 1 (j1_first s) some
      (λ r. value g D up_j some s l d same 1 a some h ∙ level-up (up_j x) x (d.at a) 1 (sym (same_first (up_j x)) ∙ r) ∙ omega arith)
      (λ r j i q.
      let ne : d.at j ≡ 0 → ⊥ = else-at true j i (λ z. omega arith) in
      value g D up_j some s l d same 1 j some i ∙ level-down (up_j (d.lo j)) (d.lo j) (d.at j) 1 (up_from j x q ∙ ap not (sym (same_first (up_j x)) ∙ r)) ∙ omega arith)
      (λ r. value g D up_j some s l d same 1 a some h ∙ level-down (up_j x) x (d.at a) 1 (sym (same_first (up_j x)) ∙ r) ∙ omega arith)
      (λ r j i q.
      let ne : d.at j ≡ 0 → ⊥ = else-at true j i (λ z. omega arith) in
      value g D up_j some s l d same 1 j some i ∙ level-up (up_j (d.lo j)) (d.lo j) (d.at j) 1 (down-from j x q ∙ ap not (sym (same_first (up_j x)) ∙ r)) ∙ omega arith)
      (λ r. twice-shows n a (suc x) p h u (twice-rise (up_j x) (slice_index s.base a) x (sym (same_first (up_j x)) ∙ r) (base-way a h)) (turns x))
      (λ r ne. twice-shows n a (x - 1) p h u (twice-fall (up_j x) (slice_index s.base a) x (sym (same_first (up_j x)) ∙ r) (base-way a h)) (turns_down x ne)))

  last : Shows g up_j (or_else (stop D (not (upward s (nth s.order g))) (j1_corner s (g - 1)) (nth s.order g)) (moved (j1_last g s) g)) (across-end g up_j false d)
  last =
      let n = nth s.order g in
      let a = d.ord (g - 1) in
      let x = d.lo a in
      let h : a < g = low_end false in
      let at_a : d.at a ≡ g - 1 = at-end false in
      let e : n ≡ suc a = order_is g D up_j some s l d same (g - 1) (omega arith) in
      let p : n - 1 ≡ a = omega arith in
      let u : upward s n ≡ up_j x = ap (way s) p ∙ way-is g D up_j some s l d same a h in
      let in-range : g - 1 ≤ g = omega arith in
      subst (λ o. Shows g up_j (or_else o (moved (j1_last g s) g)) (across-end g up_j false d))
      (sym (ap (λ t. stop D t (j1_corner s (g - 1)) n) (ap not u ∙ sym (same-last (up_j x))) ∙ ap (stop D (fam.same (up_j x) false) (j1_corner s (g - 1))) e))
      (ended false (g - 1) (j1_last g s) in-range
      (λ r. value g D up_j some s l d same (g - 1) a in-range h ∙ level-down (up_j x) x (d.at a) (g - 1) (not-true (up_j x) (sym (same-last (up_j x)) ∙ r)) ∙ omega arith)
      (λ r j i q.
      let ne : d.at j ≡ g - 1 → ⊥ = else-at false j i (λ z. omega arith) in
      value g D up_j some s l d same (g - 1) j in-range i ∙ level-up (up_j (d.lo j)) (d.lo j) (d.at j) (g - 1) (up_from j x q ∙ sym (same-last (up_j x)) ∙ r)
      ∙ omega (arith, ok.perm.at-below j i))
      (λ r. value g D up_j some s l d same (g - 1) a in-range h ∙ level-up (up_j x) x (d.at a) (g - 1) (not-false (up_j x) (sym (same-last (up_j x)) ∙ r)) ∙ omega arith)
      (λ r j i q.
      let ne : d.at j ≡ g - 1 → ⊥ = else-at false j i (λ z. omega arith) in
      value g D up_j some s l d same (g - 1) j in-range i ∙ level-down (up_j (d.lo j)) (d.lo j) (d.at j) (g - 1) (down-from j x q ∙ sym (same-last (up_j x)) ∙ r)
      ∙ omega (arith, ok.perm.at-below j i))
      (λ r.
      let down : up_j x ≡ false = not-true (up_j x) (sym (same-last (up_j x)) ∙ r) in
      turned-shows s.base n a (suc x) p h u l.size (λ j i ne. refl)
      (turn-rise (up_j x) (slice_index s.base a) x down (base-solid a h) (base-way a h)) (turns x) (λ z. turn-firm (up_j x) (slice_index s.base a) down z))
      (λ r ne.
      turned-shows s.base n a (x - 1) p h u l.size (λ j i ne. refl)
      (turn-fall (up_j x) (slice_index s.base a) x (not-false (up_j x) (sym (same-last (up_j x)) ∙ r)) (base-way a h)) (turns_down x ne)
      (λ z. turn-solid (up_j x) (slice_index s.base a) x ne (base-way a h))))

  pub crosses : (i : ℕ) → i ≤ g → Shows g up_j ((j1 g D).across s i) (fam.across g up_j d i)
  crosses i h = shows-cond g up_j (i == 0) _ _ _ _ (λ e. first)
      (λ e. shows-cond g up_j (i == g) _ _ _ _ (λ q. last)
      (λ q.
      let p = eqb-false i 0 e in
      let r = eqb-false i g q in
      let z : suc (i - 1) ≡ i = omega arith in
      subst (λ n. Shows g up_j (or_else (stop D (upward s (nth s.order (suc n))) (j1_corner s (i - 1)) (nth s.order (suc n))) (moved (j1_middle s n) n)) (across-middle d (i - 1))) z
      (between g D up_j some s l d same (i - 1) (omega arith))))
