-- The wall that stops a level, as the family finds it.
use Rattle.std.specs.Prelude.{◌≡◌, ℕ, suc, ◌+◌, ◌-◌, ◌<◌, ◌≤◌, min, Bool, true, false, cond, ◌&&◌, List, length, Some, None, ◌==◌, ◌≢◌, nat_eq, slice_index, refl}
use Rattle.std.proofs.Common.{sym, ◌∙◌, ap, subst, inl, inr, arith}
use Rattle.std.proofs.lemmas.List.{get_or_past}
use Rattle.std.proofs.lemmas.Bool.{cases_lt, cases_eq, both_ways, eqb-true, eq-eqb, ne_eqb, cond-true, cond-false, and_parts, and_from, and_left, and_right}
use Rattle.std.proofs.lemmas.Bool.Decides.{nat_tests}
use Rattle.mesh.specs.Prices.{first}
use Rattle.cells.specs.Corners.{Wall, outer_wall, real_wall, good_wall}
use Rattle.todd_laws.specs.Steps.{stop}
use Rattle.todd_laws.proofs.Family.{Cell, level, corner, First, Valid, same, end}
use Rattle.todd_laws.proofs.Ties.{tied, tied-after, tied-before, tied-cases}
use Rattle.todd_laws.proofs.Bridge.{first-is}

cond-wall : (b : Bool) (v w : Wall) → (b ≡ true → v ≡ w) → cond b (Some v) None ≡ cond b (Some w) None
cond-wall true v w e = ap Some (e refl)
cond-wall false v w e = refl

bool_iff : (x y : Bool) → (x ≡ true → y ≡ true) → (y ≡ true → x ≡ true) → x ≡ y
bool_iff true y p q = sym (p refl)
bool_iff false true p q = q refl
bool_iff false false p q = refl

stop-up : (D : ℕ) (v : List ℕ) (a : ℕ) (b : Bool) (w : Wall)
    → (a ≡ 0 → ((first v == suc D) ≡ b) × (b ≡ true → outer_wall ≡ w))
    → ((a ≢ 0) → ((slice_index v a == slice_index v (a - 1)) ≡ b) × (b ≡ true → good_wall a ≡ w))
    → stop D true v (suc a) ≡ cond b (Some w) None
stop-up D v a b w at_first after = elim (cases_eq a 0) [
  | inl e ↦
      let p = at_first e in
      cond-true (suc a == 1) (cond (first v == suc D) (Some outer_wall) None) (cond (slice_index v (suc a - 1) == slice_index v (suc a - 1 - 1)) (Some (good_wall (suc a - 1))) None) (eq-eqb (suc a) 1 (omega arith))
      ∙ ap (λ t. cond t (Some outer_wall) None) p.0 ∙ cond-wall b outer_wall w p.1
  | inr e ↦
      let p = after e in
      let q : suc a - 1 ≡ a = omega arith in
      cond-false (suc a == 1) (cond (first v == suc D) (Some outer_wall) None) (cond (slice_index v (suc a - 1) == slice_index v (suc a - 1 - 1)) (Some (good_wall (suc a - 1))) None) (ne_eqb (suc a) 1 (λ z. e (omega arith)))
      ∙ ap (λ n. cond (slice_index v n == slice_index v (n - 1)) (Some (good_wall n)) None) q
      ∙ ap (λ t. cond t (Some (good_wall a)) None) p.0 ∙ cond-wall b (good_wall a) w p.1
]

stop-down : (D : ℕ) (v : List ℕ) (a : ℕ)
    → stop D false v (suc a) ≡ cond (a == 0 && first v == D) (Some real_wall) (cond (slice_index v a == slice_index v (suc a)) (Some (good_wall (suc a))) None)
stop-down D v a =
    let p : nat_eq (suc a) 1 ≡ nat_eq a 0 = grind (arith, nat_tests) in
    let q : suc a - 1 ≡ a = omega arith in
    let r : suc a + 1 - 1 ≡ suc a = omega arith in
    ap (λ t. cond (t && first v == D) (Some real_wall) (cond (slice_index v (suc a - 1) == slice_index v (suc a + 1 - 1)) (Some (good_wall (suc a))) None)) p
    ∙ ap (λ n. cond (a == 0 && first v == D) (Some real_wall) (cond (slice_index v n == slice_index v (suc a + 1 - 1)) (Some (good_wall (suc a))) None)) q
    ∙ ap (λ n. cond (a == 0 && first v == D) (Some real_wall) (cond (slice_index v a == slice_index v n) (Some (good_wall (suc a))) None)) r

pub level-low : (d : Bool) (x q k : ℕ) → x ≤ level d x q k
level-low true x q k = omega arith
level-low false x q k = omega arith

pub level-high : (d : Bool) (x q k : ℕ) → level d x q k ≤ suc x
level-high true x q k = omega arith
level-high false x q k = omega arith

pub level-up : (d : Bool) (x q k : ℕ) → d ≡ true → level d x q k ≡ x + min 1 (k - q)
level-up d x q k e = ap (λ d. level d x q k) e

pub level-down : (d : Bool) (x q k : ℕ) → d ≡ false → level d x q k ≡ x + min 1 (suc q - k)
level-down d x q k e = ap (λ d. level d x q k) e

pub first-up : (d : Bool) (m n : ℕ) → d ≡ true → First d m n → m < n
first-up d m n e f = subst (λ d. First d m n) e f

pub first-down : (d : Bool) (m n : ℕ) → d ≡ false → First d m n → n < m
first-down d m n e f = subst (λ d. First d m n) e f

-- Between two steps: the level a moves at step m, and b at the next.
module _ (g D : ℕ) (up : ℕ → Bool) (c : Cell) (valid : Valid g D up c) (m a b : ℕ) (h : suc m < g) (low-a : a < g) (low-b : b < g) (at_a : c.at a ≡ m) (at_b : c.at b ≡ suc m)
    (v : List ℕ) (size : length v ≡ g) (at : (j : ℕ) → j < g → slice_index v j ≡ corner up c m j) where
  is-a : (j : ℕ) → j < g → c.at j ≡ m → j ≡ a
  is-a j l e = sym (valid.perm.ord-at j l) ∙ ap c.ord (e ∙ sym at_a) ∙ valid.perm.ord-at a low-a

  -- Going up, b is the level after a; going down, a is the level after b.
  up_next : up (c.lo b) ≡ true → tied c.lo a b ≡ true → b ≡ suc a
  up_next u e =
      let p = tied-cases c.lo a b e in
      elim p.1 [
        | inl q ↦ q
        | inr q ↦
            let l : suc b < g = omega arith in
            let f = first-up (up (c.lo b)) (c.at b) (c.at (suc b)) u (valid.ties b l (ap c.lo (sym q) ∙ p.0)) in
            absurd (omega (arith, f, ap c.at q))
      ]

  down-next : up (c.lo b) ≡ false → tied c.lo a b ≡ true → a ≡ suc b
  down-next u e =
      let p = tied-cases c.lo a b e in
      elim p.1 [
        | inr q ↦ q
        | inl q ↦
            let l : suc a < g = omega arith in
            let f = first-down (up (c.lo a)) (c.at a) (c.at (suc a)) (ap up p.0 ∙ u) (valid.ties a l (ap c.lo (sym q) ∙ sym p.0)) in
            absurd (omega (arith, f, ap c.at q))
      ]

  b-up : up (c.lo b) ≡ true → slice_index v b ≡ c.lo b
  b-up u = at b low-b ∙ level-up (up (c.lo b)) (c.lo b) (c.at b) m u ∙ omega arith

  b-down : up (c.lo b) ≡ false → slice_index v b ≡ suc (c.lo b)
  b-down u = at b low-b ∙ level-down (up (c.lo b)) (c.lo b) (c.at b) m u ∙ omega arith

  up_from : up (c.lo b) ≡ true → (j : ℕ) → b ≡ suc j → slice_index v b ≡ slice_index v j → tied c.lo a b ≡ true
  up_from u j e q =
      let l : suc j < g = omega arith in
      let k : j < g = omega arith in
      let same : c.lo (suc j) ≡ c.lo j = omega (arith, b-up u, ap c.lo e, valid.falls j l, at j k, level-low (up (c.lo j)) (c.lo j) (c.at j) m) in
      let w : up (c.lo j) ≡ true = ap up (sym same ∙ ap c.lo (sym e)) ∙ u in
      let f = first-up (up (c.lo j)) (c.at j) (c.at (suc j)) w (valid.ties j l same) in
      let here : c.at j ≡ m = omega (arith, f, ap c.at e, b-up u, ap c.lo e, at j k, level-up (up (c.lo j)) (c.lo j) (c.at j) m w) in
      let z = is-a j k here in
      tied-after c.lo a b (ap c.lo (sym z) ∙ sym same ∙ ap c.lo (sym e)) (e ∙ ap suc z)

  up_to : up (c.lo b) ≡ true → (j : ℕ) → b ≡ suc j → tied c.lo a b ≡ true → slice_index v b ≡ slice_index v j
  up_to u j e t =
      let p = (tied-cases c.lo a b t).0 in
      let z : j ≡ a = omega (arith, up_next u t) in
      b-up u ∙ sym p ∙ sym (at a low-a ∙ level-up (up (c.lo a)) (c.lo a) (c.at a) m (ap up p ∙ u) ∙ omega arith) ∙ ap (λ n. slice_index v n) (sym z)

  pub mid-up : up (c.lo b) ≡ true → stop D true v (suc b) ≡ cond (tied c.lo a b) (Some (good_wall (suc (min a b)))) None
  mid-up u = stop-up D v b (tied c.lo a b) (good_wall (suc (min a b)))
      (λ e.
      let no_tie : tied c.lo a b ≡ true → ⊥ = λ t. omega (arith, up_next u t) in
      let top : first v ≡ D = first-is v ∙ ap (λ n. slice_index v n) (sym e) ∙ b-up u ∙ ap c.lo e ∙ valid.top in
      (bool_iff (first v == suc D) (tied c.lo a b) (λ q. absurd (omega (arith, eqb-true (first v) (suc D) q))) (λ q. absurd (no_tie q)), λ q. absurd (no_tie q)))
      (λ ne.
      let e : b ≡ suc (b - 1) = omega arith in (
        bool_iff (slice_index v b == slice_index v (b - 1)) (tied c.lo a b) (λ q. up_from u (b - 1) e (eqb-true (slice_index v b) (slice_index v (b - 1)) q)) (λ q. eq-eqb (slice_index v b) (slice_index v (b - 1)) (up_to u (b - 1) e q)),
        λ q. let n = up_next u q in let z : b ≡ suc (min a b) = omega arith in ap good_wall z,
      ))

  down-from : up (c.lo b) ≡ false → slice_index v b ≡ slice_index v (suc b) → tied c.lo a b ≡ true
  down-from u q = elim (cases_lt (suc b) g) [
    | inr l ↦ absurd (omega (arith, get_or_past v (suc b) 0 (omega arith), b-down u))
    | inl l ↦
        let same : c.lo (suc b) ≡ c.lo b = omega (arith, b-down u, valid.falls b l, at (suc b) l, level-high (up (c.lo (suc b))) (c.lo (suc b)) (c.at (suc b)) m) in
        let f = first-down (up (c.lo b)) (c.at b) (c.at (suc b)) u (valid.ties b l same) in
        let here : c.at (suc b) ≡ m = omega (arith, f, b-down u, at (suc b) l, level-down (up (c.lo (suc b))) (c.lo (suc b)) (c.at (suc b)) m (ap up same ∙ u)) in
        let z = is-a (suc b) l here in
        tied-before c.lo a b (ap c.lo (sym z) ∙ same) (sym z)
  ]

  down_to : up (c.lo b) ≡ false → tied c.lo a b ≡ true → slice_index v b ≡ slice_index v (suc b)
  down_to u t =
      let p = (tied-cases c.lo a b t).0 in
      b-down u ∙ ap suc (sym p) ∙ sym (at a low-a ∙ level-down (up (c.lo a)) (c.lo a) (c.at a) m (ap up p ∙ u) ∙ omega arith) ∙ ap (λ n. slice_index v n) (down-next u t)

  pub mid-down : up (c.lo b) ≡ false → stop D false v (suc b) ≡ cond (tied c.lo a b) (Some (good_wall (suc (min a b)))) None
  mid-down u =
      let real : (b == 0 && first v == D) ≡ false = elim (cases_eq b 0) [
        | inl e ↦ and_right (b == 0) (first v == D) (ne_eqb (first v) D (λ q. omega (arith, first-is v, ap (λ n. slice_index v n) e, b-down u, ap c.lo e, valid.top)))
        | inr e ↦ and_left (b == 0) (first v == D) (ne_eqb b 0 e)
      ] in
      stop-down D v b
      ∙ cond-false (b == 0 && first v == D) (Some real_wall) (cond (slice_index v b == slice_index v (suc b)) (Some (good_wall (suc b))) None) real
      ∙ ap (λ t. cond t (Some (good_wall (suc b))) None)
      (bool_iff (slice_index v b == slice_index v (suc b)) (tied c.lo a b) (λ q. down-from u (eqb-true (slice_index v b) (slice_index v (suc b)) q)) (λ q. eq-eqb (slice_index v b) (slice_index v (suc b)) (down_to u q)))
      ∙ cond-wall (tied c.lo a b) (good_wall (suc b)) (good_wall (suc (min a b))) (λ q. let n = down-next u q in let z : suc b ≡ suc (min a b) = omega arith in ap good_wall z)

-- At an end: no neighbour with the same smaller value moves beyond it.
rise-tie : (g : ℕ) (w d : Bool) (m n : ℕ) → same d w ≡ true → n ≡ end g w → m < g → First d m n → ⊥
rise-tie g true true m n s e h f = omega arith
rise-tie g true false m n s e h f = absurd (both_ways false refl s)
rise-tie g false true m n s e h f = absurd (both_ways false refl s)
rise-tie g false false m n s e h f = omega arith

fall-tie : (g : ℕ) (w d : Bool) (m n : ℕ) → same d w ≡ false → m ≡ end g w → n < g → First d m n → ⊥
fall-tie g true true m n s e h f = absurd (both_ways true s refl)
fall-tie g true false m n s e h f = omega arith
fall-tie g false true m n s e h f = omega arith
fall-tie g false false m n s e h f = absurd (both_ways true s refl)

module _ (g D : ℕ) (up : ℕ → Bool) (c : Cell) (valid : Valid g D up c) (w : Bool) (a : ℕ) (low-a : a < g) (at_a : c.at a ≡ end g w)
    (v : List ℕ) (size : length v ≡ g) (low : (j : ℕ) → j < g → c.lo j ≤ slice_index v j) (high : (j : ℕ) → j < g → slice_index v j ≤ suc (c.lo j)) where
  pub rise-stop : same (up (c.lo a)) w ≡ true → slice_index v a ≡ suc (c.lo a) → ((j : ℕ) → j < g → c.lo j ≡ suc (c.lo a) → slice_index v j ≡ suc (suc (c.lo a)))
      → stop D true v (suc a) ≡ cond (a == 0) (Some outer_wall) None
  rise-stop s here next = stop-up D v a (a == 0) outer_wall
      (λ e. (eq-eqb (first v) (suc D) (first-is v ∙ ap (λ n. slice_index v n) (sym e) ∙ here ∙ ap (λ n. suc (c.lo n)) e ∙ ap suc valid.top) ∙ sym (eq-eqb a 0 e), λ q. refl))
      (λ ne. (ne_eqb (slice_index v a) (slice_index v (a - 1)) (apart ne) ∙ sym (ne_eqb a 0 ne), λ q. absurd (ne (eqb-true a 0 q))))
    where
      apart : (a ≢ 0) → slice_index v a ≢ slice_index v (a - 1)
      apart ne q =
          let j = a - 1 in
          let e : a ≡ suc (a - 1) = omega arith in
          let l : suc (a - 1) < g = omega arith in
          let k : a - 1 < g = omega arith in
          let fall : c.lo a ≤ c.lo (a - 1) = omega (arith, valid.falls (a - 1) l, ap c.lo e) in
          elim (cases_eq (c.lo (a - 1)) (c.lo a)) [
            | inl t ↦
                rise-tie g w (up (c.lo (a - 1))) (c.at (a - 1)) (c.at a) (ap (λ n. same (up n) w) t ∙ s) at_a (valid.perm.at-below (a - 1) k)
                (subst (λ n. First (up (c.lo (a - 1))) (c.at (a - 1)) (c.at n)) (sym e) (valid.ties (a - 1) l (ap c.lo (sym e) ∙ sym t)))
            | inr t ↦ elim (cases_eq (c.lo (a - 1)) (suc (c.lo a))) [
              | inl r ↦ omega (arith, next (a - 1) k r, here)
              | inr r ↦ omega (arith, low (a - 1) k, here)
            ]
          ]

  pub fall-stop : same (up (c.lo a)) w ≡ false → slice_index v a ≡ c.lo a → ((j : ℕ) → j < g → suc (c.lo j) ≡ c.lo a → slice_index v j ≡ c.lo j)
      → stop D false v (suc a) ≡ cond (a == 0) (Some real_wall) (cond (c.lo a == 0) (Some (good_wall (suc a))) None)
  fall-stop s here next =
      stop-down D v a
      ∙ ap (λ t. cond t (Some real_wall) (cond (slice_index v a == slice_index v (suc a)) (Some (good_wall (suc a))) None)) real
      ∙ ap (λ t. cond (a == 0) (Some real_wall) (cond t (Some (good_wall (suc a))) None)) (bool_iff (slice_index v a == slice_index v (suc a)) (c.lo a == 0) to from)
    where
      real : (a == 0 && first v == D) ≡ (a == 0)
      real = bool_iff (a == 0 && first v == D) (a == 0) (λ q. (and_parts (a == 0) (first v == D) q).0)
          (λ q. let e = eqb-true a 0 q in
          and_from (a == 0) (first v == D) q (eq-eqb (first v) D (first-is v ∙ ap (λ n. slice_index v n) (sym e) ∙ here ∙ ap c.lo e ∙ valid.top)))

      no_tie : suc a < g → c.lo (suc a) ≢ c.lo a
      no_tie l t = fall-tie g w (up (c.lo a)) (c.at a) (c.at (suc a)) s at_a (valid.perm.at-below (suc a) l) (valid.ties a l t)

      to : nat_eq (slice_index v a) (slice_index v (suc a)) ≡ true → (c.lo a == 0) ≡ true
      to q =
          let e = eqb-true (slice_index v a) (slice_index v (suc a)) q in
          elim (cases_lt (suc a) g) [
            | inr l ↦ eq-eqb (c.lo a) 0 (sym here ∙ e ∙ get_or_past v (suc a) 0 (omega arith))
            | inl l ↦
                let ne = no_tie l in
                elim (cases_eq (suc (c.lo (suc a))) (c.lo a)) [
                  | inl r ↦ absurd (omega (arith, next (suc a) l r, here))
                  | inr r ↦ absurd (omega (arith, high (suc a) l, here, valid.falls a l))
                ]
          ]

      from : nat_eq (c.lo a) 0 ≡ true → (slice_index v a == slice_index v (suc a)) ≡ true
      from q =
          let e = eqb-true (c.lo a) 0 q in
          elim (cases_lt (suc a) g) [
            | inr l ↦ eq-eqb (slice_index v a) (slice_index v (suc a)) (here ∙ e ∙ sym (get_or_past v (suc a) 0 (omega arith)))
            | inl l ↦ absurd (no_tie l (omega (arith, valid.falls a l)))
          ]
