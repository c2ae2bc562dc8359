-- What lies across the first and the last place.
use Rattle.std.specs.Prelude.{◌≡◌, ℕ, suc, ◌-◌, ◌<◌, ◌≤◌, Bool, true, false, cond, not, ◌⊎◌, ◌==◌, ◌≢◌, refl}
use Rattle.std.proofs.Common.{sym, ◌∙◌, ap, subst, inl, inr, arith}
use Rattle.std.proofs.lemmas.Bool.{cases_lt, cases_eq, cases_Bool, cond-true, cond-false, eq-eqb, ne_eqb, both_ways}
use Rattle.cells.specs.Corners.{outer_wall, real_wall, good_wall, skip}
use Rattle.todd_laws.proofs.Family.{level, Cell, corner, Perm, First, Valid, Side, next, wall, same, end, place, moved, gets, across, across-end, AllOn, Same, Back, Next, Right, under}
use Rattle.todd_laws.proofs.Moves.{first-not}
use Rattle.todd_laws.proofs.Corners.{same-ord, has-corners}
use Rattle.todd_laws.proofs.Starts.{under-in, under-past}
use Rattle.todd_laws.proofs.Walls.{Ended, Neighbours, no-wall-holds}
use Rattle.todd_laws.proofs.Shifts.{Inner, shift, far, skip-far, end_below, place-within, inner, shift-level, shift-inner, shift-first, shift_back, end-first, end-last, rest-high, rest-low, far_from, moved-perm, moved-low, moved_other, moved-end, moved_at}

-- The level goes one up from x to y or one down, by its direction u and its end w.
abbrev Way : Bool → Bool → ℕ → ℕ → Type 0
Way u w x y = ((same u w ≡ true) × (y ≡ suc x)) ⊎ ((same u w ≡ false) × (x ≡ suc y))

abbrev turned : Bool → Bool → Bool → Bool
turned ux uy w = cond (same uy ux) (not w) w

flips : (ux uy w : Bool) → same uy (turned ux uy w) ≡ not (same ux w)
flips true true true = refl
flips true true false = refl
flips true false true = refl
flips true false false = refl
flips false true true = refl
flips false true false = refl
flips false false true = refl
flips false false false = refl

turns-back : (ux uy w : Bool) → turned uy ux (turned ux uy w) ≡ w
turns-back true true true = refl
turns-back true true false = refl
turns-back true false true = refl
turns-back true false false = refl
turns-back false true true = refl
turns-back false true false = refl
turns-back false false true = refl
turns-back false false false = refl

way_back : (ux uy w : Bool) (x y : ℕ) → Way ux w x y → Way uy (turned ux uy w) y x
way_back ux uy w x y (inl h) = inr (flips ux uy w ∙ ap not h.0, h.1)
way_back ux uy w x y (inr h) = inl (flips ux uy w ∙ ap not h.0, h.1)

way-differs : (u w : Bool) (x y : ℕ) → Way u w x y → x ≢ y
way-differs u w x y (inl h) e = omega (arith, h.1)
way-differs u w x y (inr h) e = omega (arith, h.1)

first_by : {u u' : Bool} {p p' q q' : ℕ} → u ≡ u' → p ≡ p' → q ≡ q' → First u' p' q' → First u p q
first_by {u} {u'} {p} {p'} {q} {q'} e f h x =
    subst (λ z. First z p q) (sym e) (subst (λ z. First u' z q) (sym f) (subst (λ z. First u' p' z) (sym h) x))

pub across-place : (g : ℕ) (up : ℕ → Bool) (c : Cell) (w : Bool) → 1 ≤ g → across g up c (place g w) ≡ across-end g up w c
across-place g up c true s = refl
across-place g up c false s =
    cond-false (g == 0) (across-end g up true c) _ (ne_eqb g 0 (λ e. omega arith)) ∙ cond-true (g == g) (across-end g up false c) _ (eq-eqb g g refl)

-- What lies across, by the level that moves at the end.
abbrev answer : ℕ → (ℕ → Bool) → Bool → Cell → ℕ → Side
answer g up w c a =
    cond (same (up (c.lo a)) w)
    (cond (a == 0) (wall outer_wall) (gets g up w c a (suc (c.lo a))))
    (cond (a == 0) (wall real_wall) (cond (c.lo a == 0) (wall (good_wall (suc a))) (gets g up w c a (c.lo a - 1))))

answer-is : (g : ℕ) (up : ℕ → Bool) (w : Bool) (c : Cell) (a : ℕ) → c.ord (end g w) ≡ a → across-end g up w c ≡ answer g up w c a
answer-is g up w c a e = ap (answer g up w c) e

abbrev went : ℕ → (ℕ → Bool) → Bool → Cell → ℕ → ℕ → Side
went g up w c a y = next (moved g w (turned (up (c.lo a)) (up y) w) c a y) (place g (turned (up (c.lo a)) (up y) w))

answer-next : (g : ℕ) (up : ℕ → Bool) (w : Bool) (c : Cell) (a y : ℕ) → (a ≢ 0) → Way (up (c.lo a)) w (c.lo a) y → answer g up w c a ≡ went g up w c a y
answer-next g up w c a y n (inl h) =
    cond-true (same (up (c.lo a)) w) _ _ h.0 ∙ cond-false (a == 0) (wall outer_wall) _ (ne_eqb a 0 n) ∙ ap (went g up w c a) (sym h.1)
answer-next g up w c a y n (inr h) =
    let e : c.lo a - 1 ≡ y = omega (arith, h.1) in
    cond-false (same (up (c.lo a)) w) _ _ h.0 ∙ cond-false (a == 0) (wall real_wall) _ (ne_eqb a 0 n)
    ∙ cond-false (c.lo a == 0) (wall (good_wall (suc a))) _ (ne_eqb (c.lo a) 0 (λ z. omega (arith, h.1))) ∙ ap (went g up w c a) e

-- Of a level that ends at the place beyond w.
ends_at : (g : ℕ) (w : Bool) (p : ℕ) → 1 ≤ g → ((place g w ≡ 0) × (p ≡ 0)) ⊎ ((place g w ≡ g) × (suc p ≡ g)) → p ≡ end g w
ends_at g true p s (inl h) = h.1
ends_at g true p s (inr h) = absurd (omega (arith, h.0))
ends_at g false p s (inl h) = absurd (omega (arith, h.0))
ends_at g false p s (inr h) = omega (arith, h.1)

ended_at : (g : ℕ) (w u : Bool) (x p : ℕ) → 1 ≤ g → Ended g (place g w) u x p → (p ≡ end g w) × (same u w ≡ false)
ended_at g true u x p s h =
    elim h.way [
      | inl e ↦ (e.1, ap (λ z. same z true) e.2)
      | inr e ↦ absurd (omega (arith, e.0))
    ]
ended_at g false u x p s h =
    elim h.way [
      | inl e ↦ absurd (omega (arith, e.0))
      | inr e ↦ (let z : p ≡ g - 1 = omega (arith, e.1) in z, ap (λ z. same z false) e.2)
    ]

no-neighbours : (g : ℕ) (w : Bool) (a p a' q : ℕ) → p < g → q < g → Neighbours (place g w) a p a' q → ⊥
no-neighbours g true a p a' q l h n = elim n.near [ inl e ↦ omega (arith, e.0) | inr e ↦ omega (arith, e.0) ]
no-neighbours g false a p a' q l h n = elim n.near [ inl e ↦ omega (arith, e.0, e.1) | inr e ↦ omega (arith, e.0, e.1) ]

module _ (g D : ℕ) (up : ℕ → Bool) (some : 1 ≤ g) (c : Cell) (valid : Valid g D up c) (w : Bool) where
  -- The level that moves at the end, and its smaller value.
  abbrev a : ℕ
  a = c.ord (end g w)

  abbrev x : ℕ
  x = c.lo a

  a-below : a < g
  a-below = valid.perm.ord-below (end g w) (end_below g w some)

  a_at : c.at a ≡ end g w
  a_at = valid.perm.at-ord (end g w) (end_below g w some)

  a-only : (j : ℕ) → j < g → c.at j ≡ end g w → j ≡ a
  a-only j h e = sym (valid.perm.ord-at j h) ∙ ap c.ord e

  others : (j : ℕ) → j < g → (j ≢ a) → Inner g w (c.at j)
  others j h n = inner g w (c.at j) (valid.perm.at-below j h) (λ e. n (a-only j h e))

  -- Level a at all other places.
  a-high : same (up x) w ≡ true → (k : ℕ) → k ≤ g → (k ≢ place g w) → corner up c k a ≡ suc x
  a-high s k h n =
      let m = far_from g w k h n in
      ap (λ z. level (up x) x z k) a_at ∙ ap (level (up x) x (end g w)) m.2 ∙ rest-high g (up x) w x m.0 s m.1

  a-low : same (up x) w ≡ false → (k : ℕ) → k ≤ g → (k ≢ place g w) → corner up c k a ≡ x
  a-low s k h n =
      let m = far_from g w k h n in
      ap (λ z. level (up x) x z k) a_at ∙ ap (level (up x) x (end g w)) m.2 ∙ rest-low g (up x) w x m.0 s m.1

  outer-holds : same (up x) w ≡ true → a ≡ 0 → AllOn g D up c (place g w) outer_wall
  outer-holds s e k h n = ap (corner up c k) (sym e) ∙ a-high s k h n ∙ ap suc (ap c.lo e ∙ valid.top)

  real-holds : same (up x) w ≡ false → a ≡ 0 → AllOn g D up c (place g w) real_wall
  real-holds s e k h n = ap (corner up c k) (sym e) ∙ a-low s k h n ∙ ap c.lo e ∙ valid.top

  good-holds : same (up x) w ≡ false → x ≡ 0 → AllOn g D up c (place g w) (good_wall (suc a))
  good-holds s e k h n =
      let u = corner up c k in
      let z : suc a - 1 ≡ a = omega arith in
      let o : u a ≡ 0 = a-low s k h n ∙ e in
      let t : under g u (suc a) ≡ 0 =
      elim (cases_lt (suc a) g) [
        | inl less ↦ under-in g u (suc a) less ∙ (let y : u (suc a) ≡ 0 = omega (arith, (has-corners g D up some c valid k h).falls a less) in y)
        | inr more ↦ under-past g u (suc a) more
      ] in
      (omega arith, omega (arith, a-below), ap u z ∙ o ∙ sym t)

  module _ (not_first : a ≡ 0 → ⊥) (y : ℕ) (way : Way (up x) w x y) where
    abbrev v : Bool
    v = turned (up x) (up y) w

    abbrev d : Cell
    d = moved g w v c a y

    back-way : Way (up y) v y x
    back-way = way_back (up x) (up y) w x y way

    d-low : d.lo a ≡ y
    d-low = moved-low g w v c a y

    d-other : (j : ℕ) → (j ≢ a) → d.lo j ≡ c.lo j
    d-other j n = moved_other g w v c a y j n

    d-end : d.at a ≡ end g v
    d-end = moved-end g w v c a y some a_at

    d-at : (j : ℕ) → j < g → (j ≢ a) → d.at j ≡ shift w v (c.at j)
    d-at j h n = moved_at g w v c a y j (others j h n)

    d-inner : (j : ℕ) → j < g → (j ≢ a) → Inner g v (shift w v (c.at j))
    d-inner j h n = shift-inner g w v (c.at j) (valid.perm.at-below j h) (others j h n)

    d-perm : Perm g d.ord d.at
    d-perm = moved-perm g w v c a y valid.perm

    -- The level above a: it stands at least as high as a does now, and higher or in order.
    above : (j : ℕ) → suc j ≡ a → (y ≤ c.lo j) × (y ≡ c.lo j → First (up y) (shift w v (c.at j)) (end g v))
    above j e =
        let h : suc j < g = omega (arith, a-below) in
        let l : j < g = omega arith in
        let n : (j ≢ a) = λ z. omega arith in
        let f : x ≤ c.lo j = subst (λ z. c.lo z ≤ c.lo j) e (valid.falls j h) in
        elim way [
          | inl s ↦
              let clash : (x ≢ c.lo j) = λ z.
              first-not (up x) (c.at j) (end g w)
              (first_by (ap up z) refl (sym (ap c.at e ∙ a_at)) (valid.ties j h (ap c.lo e ∙ z)))
              (end-first g (up x) w (c.at j) s.0 (others j l n)) in (
                omega (arith, s.1),
                λ z. elim back-way [
                  | inl t ↦ absurd (omega (arith, s.1, t.1))
                  | inr t ↦ end-last g (up y) v (shift w v (c.at j)) t.0 (d-inner j l n)
                ],
              )
          | inr s ↦ (omega (arith, s.1), λ z. absurd (omega (arith, s.1)))
        ]

    -- The level below a.
    beneath : (h : suc a < g) → (c.lo (suc a) ≤ y) × (c.lo (suc a) ≡ y → First (up y) (end g v) (shift w v (c.at (suc a))))
    beneath h =
        let n : (suc a ≢ a) = λ z. omega arith in
        let f = valid.falls a h in
        elim way [
          | inl s ↦ (omega (arith, s.1), λ z. absurd (omega (arith, s.1)))
          | inr s ↦
              let clash : (c.lo (suc a) ≢ x) = λ z.
              first-not (up x) (end g w) (c.at (suc a))
              (first_by refl (sym a_at) refl (valid.ties a h z))
              (end-last g (up x) w (c.at (suc a)) s.0 (others (suc a) h n)) in (
                omega (arith, s.1),
                λ z. elim back-way [
                  | inl t ↦ end-first g (up y) v (shift w v (c.at (suc a))) t.0 (d-inner (suc a) h n)
                  | inr t ↦ absurd (omega (arith, s.1, t.1))
                ],
              )
        ]

    d-falls : (j : ℕ) → suc j < g → d.lo (suc j) ≤ d.lo j
    d-falls j h =
        elim (cases_eq (suc j) a) [
          | inl e ↦
              let p = ap d.lo e ∙ d-low in
              let q = d-other j (λ z. omega arith) in
              omega (arith, (above j e).0)
          | inr n ↦ elim (cases_eq j a) [
            | inl e ↦
                let f : c.lo (suc j) ≤ y = subst (λ z. suc z < g → c.lo (suc z) ≤ y) (sym e) (λ l. (beneath l).0) h in
                let p = ap d.lo e ∙ d-low in
                let q = d-other (suc j) n in
                omega arith
            | inr o ↦
                let p = d-other j o in
                let q = d-other (suc j) n in
                omega (arith, valid.falls j h)
          ]
        ]

    d-ties : (j : ℕ) → suc j < g → d.lo (suc j) ≡ d.lo j → First (up (d.lo j)) (d.at j) (d.at (suc j))
    d-ties j h tie =
        let l : j < g = omega arith in
        elim (cases_eq (suc j) a) [
          | inl e ↦
              let o : (j ≢ a) = λ z. omega arith in
              let p : d.lo (suc j) ≡ y = ap d.lo e ∙ d-low in
              let q = d-other j o in
              first_by (ap up (sym tie ∙ p)) (d-at j l o) (ap d.at e ∙ d-end) ((above j e).1 (sym p ∙ tie ∙ q))
          | inr n ↦ elim (cases_eq j a) [
            | inl e ↦
                let f : c.lo (suc j) ≡ y → First (up y) (end g v) (shift w v (c.at (suc j))) =
                subst (λ z. suc z < g → c.lo (suc z) ≡ y → First (up y) (end g v) (shift w v (c.at (suc z)))) (sym e) (λ l. (beneath l).1) h in
                let p : d.lo j ≡ y = ap d.lo e ∙ d-low in
                let q = d-other (suc j) n in
                first_by (ap up p) (ap d.at e ∙ d-end) (d-at (suc j) h n) (f (sym q ∙ tie ∙ p))
            | inr o ↦
                let p = d-other j o in
                let q = d-other (suc j) n in
                first_by (ap up p) (d-at j l o) (d-at (suc j) h n)
                (shift-first g w v (up (c.lo j)) (c.at j) (c.at (suc j)) (others j l o) (others (suc j) h n) (valid.ties j h (sym q ∙ tie ∙ p)))
          ]
        ]

    d-valid : Valid g D up d
    d-valid = record { perm = d-perm; top = d-other 0 (λ z. not_first (sym z)) ∙ valid.top; falls = d-falls; ties = d-ties }

    -- The other corners stay.
    a-stays : (k : ℕ) → k < g → level (up x) x (c.at a) (far w k) ≡ level (up (d.lo a)) (d.lo a) (d.at a) (far v k)
    a-stays k h =
        let p : level (up (d.lo a)) (d.lo a) (d.at a) (far v k) ≡ level (up y) y (end g v) (far v k) =
        ap (λ z. level (up z) z (d.at a) (far v k)) d-low ∙ ap (λ z. level (up y) y z (far v k)) d-end in
        let q : level (up x) x (c.at a) (far w k) ≡ level (up x) x (end g w) (far w k) = ap (λ z. level (up x) x z (far w k)) a_at in
        let o : level (up x) x (end g w) (far w k) ≡ level (up y) y (end g v) (far v k) =
        elim way [
          | inl s ↦ elim back-way [
            | inl t ↦ absurd (omega (arith, s.1, t.1))
            | inr t ↦ rest-high g (up x) w x k s.0 h ∙ sym s.1 ∙ sym (rest-low g (up y) v y k t.0 h)
          ]
          | inr s ↦ elim back-way [
            | inl t ↦ rest-low g (up x) w x k s.0 h ∙ s.1 ∙ sym (rest-high g (up y) v y k t.0 h)
            | inr t ↦ absurd (omega (arith, s.1, t.1))
          ]
        ] in
        q ∙ o ∙ sym p

    d-stays : (k l : ℕ) → k < g → l < g → corner up c (far w k) l ≡ corner up d (far v k) l
    d-stays k l p q =
        elim (cases_eq l a) [
          | inl e ↦ subst (λ z. corner up c (far w k) z ≡ corner up d (far v k) z) (sym e) (a-stays k p)
          | inr n ↦
              shift-level g w v (up (c.lo l)) (c.lo l) (c.at l) k (valid.perm.at-below l q) (others l q n) p
              ∙ ap (λ z. level (up z) z (shift w v (c.at l)) (far v k)) (sym (d-other l n))
              ∙ ap (λ z. level (up (d.lo l)) (d.lo l) z (far v k)) (sym (d-at l q n))
        ]

    d-kept : (k l : ℕ) → k < g → l < g → corner up c (skip (place g w) k) l ≡ corner up d (skip (place g v) k) l
    d-kept k l p q =
        ap (λ z. corner up c z l) (skip-far g w k p) ∙ d-stays k l p q ∙ ap (λ z. corner up d z l) (sym (skip-far g v k p))

    d-differs : Same g c d → ⊥
    d-differs alike = way-differs (up x) w x y way (alike.lo a a-below ∙ d-low)

    -- From the new cell across its end one comes back.
    d-ord : d.ord (end g v) ≡ a
    d-ord = ap d.ord (sym d-end) ∙ d-perm.ord-at a a-below

    abbrev e : Cell
    e = moved g v w d a x

    e-lo : (j : ℕ) → j < g → e.lo j ≡ c.lo j
    e-lo j h =
        elim (cases_eq j a) [
          | inl z ↦ ap e.lo z ∙ moved-low g v w d a x ∙ ap c.lo (sym z)
          | inr n ↦ moved_other g v w d a x j n ∙ d-other j n
        ]

    e-at : (j : ℕ) → j < g → e.at j ≡ c.at j
    e-at j h =
        elim (cases_eq j a) [
          | inl z ↦ ap e.at z ∙ moved-end g v w d a x some d-end ∙ sym a_at ∙ ap c.at (sym z)
          | inr n ↦
              moved_at g v w d a x j (subst (λ z. Inner g v z) (sym (d-at j h n)) (d-inner j h n))
              ∙ ap (shift v w) (d-at j h n) ∙ shift_back g w v (c.at j) (others j h n)
        ]

    e-same : Same g e c
    e-same =
        record {
          lo = e-lo;
          ord = same-ord g e.ord e.at c.ord c.at (moved-perm g v w d a x d-perm) valid.perm e-at;
          at = e-at;
        }

    d-across : across g up d (place g v) ≡ next e (place g w)
    d-across =
        across-place g up d v some ∙ answer-is g up v d a d-ord
        ∙ answer-next g up v d a x not_first (subst (λ z. Way (up z) v z x) (sym d-low) back-way)
        ∙ ap (λ z. next (moved g v z d a x) (place g z)) (ap (λ z. turned (up z) (up x) v) d-low ∙ turns-back (up x) (up y) w)

    d-back : Back g c (place g w) (across g up d (place g v))
    d-back = subst (λ s. Back g c (place g w) s) (sym d-across) (e-same, refl)

    bottom : (j : ℕ) → suc j ≡ g → Ended g (place g w) (up (c.lo j)) (c.lo j) (c.at j) → ⊥
    bottom j h z =
        let t = ended_at g w (up (c.lo j)) (c.lo j) (c.at j) some z in
        let q : j ≡ a = a-only j (omega arith) t.0 in
        let o : x ≡ 0 = ap c.lo (sym q) ∙ z.low in
        let f : same (up x) w ≡ false = ap (λ i. same (up (c.lo i)) w) (sym q) ∙ t.1 in
        elim way [
          | inl s ↦ both_ways (same (up x) w) f s.0
          | inr s ↦ omega (arith, s.1)
        ]

    end-side : Next g D up c (place g w) d (place g v)
    end-side =
        record {
          valid = d-valid;
          within = place-within g v;
          kept = d-kept;
          differs = d-differs;
          back = d-back;
          no-wall =
              no-wall-holds g D up some c valid (place g w) (place-within g w)
              (λ z. not_first (sym (a-only 0 some (ends_at g w (c.at 0) some z))))
              bottom
              (λ j h. no-neighbours g w (c.lo j) (c.at j) (c.lo (suc j)) (c.at (suc j)) (valid.perm.at-below j (omega arith)) (valid.perm.at-below (suc j) h));
        }

  abbrev Fine : Side → Type 0
  Fine s = Right g D up c (place g w) s

  goes : (a ≢ 0) → (y : ℕ) → Way (up x) w x y → Fine (answer g up w c a)
  goes n y way = subst Fine (sym (answer-next g up w c a y n way)) (end-side n y way)

  answer-right : Fine (answer g up w c a)
  answer-right =
      elim (cases_Bool (same (up x) w)) [
        | inl s ↦ elim (cases_eq a 0) [
          | inl e ↦ subst Fine (sym (cond-true (same (up x) w) _ _ s ∙ cond-true (a == 0) _ _ (eq-eqb a 0 e))) (outer-holds s e)
          | inr n ↦ goes n (suc x) (inl (s, refl))
        ]
        | inr s ↦ elim (cases_eq a 0) [
          | inl e ↦ subst Fine (sym (cond-false (same (up x) w) _ _ s ∙ cond-true (a == 0) _ _ (eq-eqb a 0 e))) (real-holds s e)
          | inr n ↦ elim (cases_eq x 0) [
            | inl e ↦
                subst Fine
                (sym (cond-false (same (up x) w) _ _ s ∙ cond-false (a == 0) _ _ (ne_eqb a 0 n) ∙ cond-true (x == 0) _ _ (eq-eqb x 0 e)))
                (good-holds s e)
            | inr o ↦ goes n (x - 1) (inr (s, omega arith))
          ]
        ]
      ]

  pub end-right : Right g D up c (place g w) (across g up c (place g w))
  end-right = subst Fine (sym (across-place g up c w some)) answer-right
