-- K1 and J1 as members of the family.
--   family    the family cell of a shape
--   Listed    a shape that is a cell, with the directions that `up` gives
use Rattle.std.specs.Prelude.{◌≡◌, ℕ, zero, suc, ◌-◌, ◌%◌, ◌<◌, ◌≤◌, Bool, true, false, ◌≢◌, List, [], ◌∷◌, length, get_or, replicate, ◌==◌, slice_index, slice_index_or, refl}
use Rattle.std.proofs.Common.{sym, ◌∙◌, ap, subst, inl, inr, ⊎_elim, arith, add-one}
use Rattle.std.proofs.lemmas.Bool.{both_ways, cases_lt, cases_eq, eqb-true, eqb-false, eq-eqb, ne_eqb}
use Rattle.std.proofs.lemmas.List.{get_or_past, get_or-set_same, get_or-set_other, length-set, ext_get_or, length-replicate}
use Rattle.std.proofs.ByRecursion.{All-get_or, All-from_get_or}
use Rattle.mesh.specs.Prices.{first}
use Rattle.mesh.proofs.Levels.{falls_at, falls-from, falls-true}
use Rattle.cells.specs.Corners.{Corner}
use Rattle.cells.specs.Triangulation.{Shape}
use Rattle.todd_laws.specs.Steps.{step, shift, nth, IsOrder}
use Rattle.todd_laws.specs.K1.{k1_corner, K1Cell}
use Rattle.todd_laws.specs.J1.{j1_corner, J1Cell, upward}
use Rattle.todd_laws.proofs.Family as fam
use Rattle.todd_laws.proofs.Family.{Cell, Perm, Valid, Same}
use Rattle.todd_laws.proofs.FamilyLaws.{valid-from, valid-corners}
use Rattle.todd_laws.proofs.Onto.{onto, find, find-is}

-- The directions of K1 and of J1.
abbrev pub up_k : ℕ → Bool
up_k n = true

abbrev pub up_j : ℕ → Bool
up_j n = n % 2 == 1

-- The direction and the smaller value of level j + 1.
abbrev pub way : Shape → ℕ → Bool
way s j = slice_index_or s.ups j true

abbrev pub least : Bool → ℕ → ℕ
least true b = b
least false b = b - 1

abbrev pub family : Shape → Cell
family s = record { lo = λ j. least (way s j) (slice_index s.base j); ord = λ k. slice_index s.order k - 1; at = λ j. find s.order (suc j) }

-- An order of 1 to g and its places are inverse to one another.
module _ (g : ℕ) (p : List ℕ) (o : IsOrder g p) where
  there : (j : ℕ) → j < g → (k : ℕ) × (k < g) × (slice_index p k - 1 ≡ j)
  there j h = onto g (λ k. slice_index p k - 1) (λ k h. omega (arith, o.low k h, o.high k h)) (λ i k hi hk e. o.apart i k hi hk (omega (arith, o.low i hi, o.low k hk))) j h

  found : (j : ℕ) → j < g → (find p (suc j) < g) × (slice_index p (find p (suc j)) ≡ suc j)
  found j h =
      let r = there j h in
      let k = r.0 in
      let e : get_or p k 0 ≡ suc j = omega (arith, r.1, r.2, o.low k r.1) in
      let f = find-is p (suc j) k (omega (arith, r.1, o.size)) e in
      (omega (arith, f.0, r.1), f.1)

  back : (k : ℕ) → k < g → find p (suc (slice_index p k - 1)) ≡ k
  back k h =
      let e : suc (slice_index p k - 1) ≡ get_or p k 0 = omega (arith, o.low k h) in
      let f = find-is p (slice_index p k) k (omega (arith, o.size)) refl in
      rw e (o.apart (find p (slice_index p k)) k (omega (arith, f.0)) h f.1)

  pub order-perm : Perm g (λ k. slice_index p k - 1) (λ j. find p (suc j))
  order-perm = record {
    ord-below = λ k h. omega (arith, o.low k h, o.high k h);
    at-below = λ j h. (found j h).0;
    at-ord = back;
    ord-at = λ j h. omega (arith, (found j h).1);
  }

pub length_shift : (d : Bool) (v : List ℕ) (m : ℕ) → length (shift d v m) ≡ length v
length_shift true v m = length-set v _ _
length_shift false v m = length-set v _ _

pub shift_same : (d : Bool) (v : List ℕ) (m : ℕ) → m - 1 < length v → slice_index (shift d v m) (m - 1) ≡ step d (slice_index v (m - 1))
shift_same true v m h = get_or-set_same v _ _ 0 h
shift_same false v m h = get_or-set_same v _ _ 0 h

pub shift-other : (d : Bool) (v : List ℕ) (m i : ℕ) → i ≢ m - 1 → slice_index (shift d v m) i ≡ slice_index v i
shift-other true v m i h = get_or-set_other v _ i _ 0 h
shift-other false v m i h = get_or-set_other v _ i _ 0 h

level-first : (d : Bool) (b q : ℕ) → (d ≡ false → 1 ≤ b) → b ≡ fam.level d (least d b) q 0
level-first true b q f = omega arith
level-first false b q f = omega (arith, f refl)

level-moves : (d : Bool) (x k : ℕ) → step d (fam.level d x k k) ≡ fam.level d x k (suc k)
level-moves true x k = omega arith
level-moves false x k = omega arith

level-waits : (d : Bool) (x q k : ℕ) → (q ≢ k) → fam.level d x q k ≡ fam.level d x q (suc k)
level-waits true x q k h = omega arith
level-waits false x q k h = omega arith

-- The corners of a shape are those of its family cell.
module _ (g : ℕ) (s : Shape) (size : length s.base ≡ g) (order : IsOrder g s.order) (solid : (j : ℕ) → j < g → way s j ≡ false → 1 ≤ slice_index s.base j) where
  pub corner-size : (k : ℕ) → length (j1_corner s k) ≡ g
  corner-size zero = size
  corner-size (suc k) = length_shift (upward s (nth s.order (suc k))) (j1_corner s k) (nth s.order (suc k)) ∙ corner-size k

  pub corner-way : (k j : ℕ) → k ≤ g → j < g → slice_index (j1_corner s k) j ≡ fam.level (way s j) ((family s).lo j) ((family s).at j) k
  corner-way zero j h l = level-first (way s j) (slice_index s.base j) ((family s).at j) (solid j l)
  corner-way (suc k) j h l =
      let m = nth s.order (suc k) in
      let perm = order-perm g s.order order in
      let e1 : suc k - 1 ≡ k = omega arith in
      let at-m : (family s).at (m - 1) ≡ k = rw e1 (perm.at-ord k h) in
      let low : m - 1 < g = rw e1 (perm.ord-below k h) in
      elim (cases_eq j (m - 1)) [
        | inl e ↦ subst (λ i. slice_index (j1_corner s (suc k)) i ≡ fam.level (way s i) ((family s).lo i) ((family s).at i) (suc k)) (sym e)
            (shift_same (way s (m - 1)) (j1_corner s k) m (omega (arith, corner-size k))
            ∙ ap (step (way s (m - 1))) (corner-way k (m - 1) (omega arith) low)
            ∙ ap (λ q. step (way s (m - 1)) (fam.level (way s (m - 1)) ((family s).lo (m - 1)) q k)) at-m
            ∙ level-moves (way s (m - 1)) ((family s).lo (m - 1)) k
            ∙ ap (λ q. fam.level (way s (m - 1)) ((family s).lo (m - 1)) q (suc k)) (sym at-m))
        | inr ne ↦
            let else : (family s).at j ≡ k → ⊥ = λ q. ne (sym (perm.ord-at j l) ∙ ap (λ i. slice_index s.order i - 1) q ∙ ap (λ i. slice_index s.order i - 1) (sym e1)) in
            shift-other (way s (m - 1)) (j1_corner s k) m j ne
            ∙ corner-way k j (omega arith) l
            ∙ level-waits (way s j) ((family s).lo j) ((family s).at j) k else
      ]

-- A corner as a list and as a function.
pub first-is : (v : List ℕ) → first v ≡ slice_index v 0
first-is [] = refl
first-is (x ∷ xs) = refl

pub corner-to : (g D : ℕ) (v : List ℕ) → Corner g D v → fam.Corner g D (λ j. slice_index v j)
corner-to g D v c = record {
  top = ⊎_elim (λ e. omega (arith, first-is v)) (λ e. omega (arith, first-is v)) c.top;
  top-most = ⊎_elim (λ e. omega (arith, first-is v)) (λ e. omega (arith, first-is v)) c.top;
  falls = λ j h. rw (← add-one) (falls_at v j c.falls);
}

pub corner-from : (g D : ℕ) (v : List ℕ) → length v ≡ g → fam.Corner g D (λ j. slice_index v j) → Corner g D v
corner-from g D v e c = record {
  size = e;
  falls = falls-true v (falls-from v (λ j h. rw add-one (c.falls j (omega arith))));
  top = elim (cases_eq (first v) D) [ inl q ↦ inl q | inr q ↦ inr (omega (arith, first-is v, c.top, c.top-most)) ];
}

-- A shape that is a cell, with the directions that `up` gives.
pub record Listed (g D : ℕ) (up : ℕ → Bool) (s : Shape) : Type 0 where
  pub size : length s.base ≡ g
  pub order : IsOrder g s.order
  pub directions : length s.ups ≡ g
  pub ways : (j : ℕ) → j < g → up ((family s).lo j) ≡ way s j
  pub solid : (j : ℕ) → j < g → way s j ≡ false → 1 ≤ slice_index s.base j
  pub corners : (k : ℕ) → k ≤ g → Corner g D (j1_corner s k)

-- The same without the corners.
pub record Formed (g : ℕ) (up : ℕ → Bool) (s : Shape) : Type 0 where
  pub size : length s.base ≡ g
  pub order : IsOrder g s.order
  pub directions : length s.ups ≡ g
  pub ways : (j : ℕ) → j < g → up ((family s).lo j) ≡ way s j
  pub solid : (j : ℕ) → j < g → way s j ≡ false → 1 ≤ slice_index s.base j

shape-eq : (s t : Shape) → s.base ≡ t.base → s.order ≡ t.order → s.ups ≡ t.ups → s ≡ t
shape-eq s t b o u =
    ap (λ x. record { base = x; order = s.order; ups = s.ups }) b
    ∙ ap (λ x. record { base = t.base; order = x; ups = s.ups }) o
    ∙ ap (λ x. record { base = t.base; order = t.order; ups = x }) u

least-same : (d : Bool) (b c : ℕ) → (d ≡ false → 1 ≤ b) → (d ≡ false → 1 ≤ c) → least d b ≡ least d c → b ≡ c
least-same true b c p q e = e
least-same false b c p q e = omega (arith, p refl, q refl)

corner-like : (g D : ℕ) (u v : ℕ → ℕ) → 1 ≤ g → ((j : ℕ) → j < g → u j ≡ v j) → fam.Corner g D u → fam.Corner g D v
corner-like g D u v some e c = record {
  top = omega (arith, e 0 some, c.top);
  top-most = omega (arith, e 0 some, c.top-most);
  falls = λ j h. omega (arith, e j (omega arith), e (suc j) h, c.falls j h);
}

module _ (g D : ℕ) (up : ℕ → Bool) where
  pub corner-at : (s : Shape) → Listed g D up s → (k j : ℕ) → k ≤ g → j < g → slice_index (j1_corner s k) j ≡ fam.corner up (family s) k j
  corner-at s c k j h l = corner-way g s c.size c.order c.solid k j h l ∙ ap (λ d. fam.level d ((family s).lo j) ((family s).at j) k) (sym (c.ways j l))

  -- Shapes are determined by their family cell.
  pub shape_same : (s t : Shape) → Listed g D up s → Listed g D up t → Same g (family s) (family t) → s ≡ t
  shape_same s t c d same = shape-eq s t
      (ext_get_or 0 s.base t.base (c.size ∙ sym d.size) (λ j h. base j (omega (arith, c.size))))
      (ext_get_or 0 s.order t.order (c.order.size ∙ sym d.order.size) (λ j h. let l : j < g = omega (arith, c.order.size) in omega (arith, same.ord j l, c.order.low j l, d.order.low j l)))
      (ext_get_or true s.ups t.ups (c.directions ∙ sym d.directions) (λ j h. turn j (omega (arith, c.directions))))
    where
      turn : (j : ℕ) → j < g → way s j ≡ way t j
      turn j h = sym (c.ways j h) ∙ ap up (same.lo j h) ∙ d.ways j h

      base : (j : ℕ) → j < g → slice_index s.base j ≡ slice_index t.base j
      base j h = least-same (way s j) (slice_index s.base j) (slice_index t.base j) (c.solid j h) (λ e. d.solid j h (sym (turn j h) ∙ e))
          (same.lo j h ∙ ap (λ x. least x (slice_index t.base j)) (sym (turn j h)))

  pub listed-valid : 1 ≤ g → (s : Shape) → Listed g D up s → Valid g D up (family s)
  listed-valid some s c =
      let perm = order-perm g s.order c.order in
      valid-from g D up some (family s) perm.at-below perm.ord-below perm.at-ord perm.ord-at
      (λ k h. corner-like g D (λ j. slice_index (j1_corner s k) j) (fam.corner up (family s) k) some (λ j l. corner-at s c k j h l) (corner-to g D (j1_corner s k) (c.corners k h)))

  -- A shape of the right sizes whose family cell is valid.
  pub valid-listed : 1 ≤ g → (s : Shape) → length s.base ≡ g → IsOrder g s.order → length s.ups ≡ g
      → ((j : ℕ) → j < g → up ((family s).lo j) ≡ way s j) → ((j : ℕ) → j < g → way s j ≡ false → 1 ≤ slice_index s.base j) → Valid g D up (family s) → Listed g D up s
  valid-listed some s size order directions ways solid valid = record {
    size = size;
    order = order;
    directions = directions;
    ways = ways;
    solid = solid;
    corners = λ k h. corner-from g D (j1_corner s k) (corner-size g s size order solid k)
        (corner-like g D (fam.corner up (family s) k) (λ j. slice_index (j1_corner s k) j) some
        (λ j l. sym (corner-way g s size order solid k j h l ∙ ap (λ d. fam.level d ((family s).lo j) ((family s).at j) k) (sym (ways j l))))
        (valid-corners g D up some (family s) valid k h));
  }

-- K1: all directions are up, so that its corners are those of J1.
ups-true : (g j : ℕ) → slice_index_or (replicate g true) j true ≡ true
ups-true zero j = refl
ups-true (suc g) zero = refl
ups-true (suc g) (suc j) = ups-true g j

pub k1-way : (g D : ℕ) (s : Shape) → K1Cell g D s → (j : ℕ) → way s j ≡ true
k1-way g D s c j = ap (λ l. get_or l j true) c.up ∙ ups-true g j

pub k1-corner : (s : Shape) → ((j : ℕ) → way s j ≡ true) → (k : ℕ) → k1_corner s k ≡ j1_corner s k
k1-corner s up zero = refl
k1-corner s up (suc k) =
    ap (λ v. shift true v (nth s.order (suc k))) (k1-corner s up k)
    ∙ ap (λ d. shift d (j1_corner s k) (nth s.order (suc k))) (sym (up (nth s.order (suc k) - 1)))

pub k1-listed : (g D : ℕ) (s : Shape) → K1Cell g D s → Listed g D up_k s
k1-listed g D s c = record {
  size = c.size;
  order = c.order;
  directions = ap length c.up ∙ length-replicate g true;
  ways = λ j h. sym (k1-way g D s c j);
  solid = λ j h e. absurd (both_ways (way s j) e (k1-way g D s c j));
  corners = λ k h. subst (Corner g D) (k1-corner s (k1-way g D s c) k) (c.corners k h);
}

pub listed-k1-way : (g D : ℕ) (s : Shape) → Listed g D up_k s → (j : ℕ) → way s j ≡ true
listed-k1-way g D s c j = elim (cases_lt j g) [ inl h ↦ sym (c.ways j h) | inr h ↦ get_or_past s.ups j true (omega (arith, c.directions)) ]

pub listed-k1 : (g D : ℕ) (s : Shape) → Listed g D up_k s → K1Cell g D s
listed-k1 g D s c = record {
  size = c.size;
  order = c.order;
  up = ext_get_or true s.ups (replicate g true) (c.directions ∙ sym (length-replicate g true)) (λ j h. listed-k1-way g D s c j ∙ sym (ups-true g j));
  corners = λ k h. subst (Corner g D) (sym (k1-corner s (listed-k1-way g D s c) k)) (c.corners k h);
}

-- J1: the base is odd, so that the parity of the smaller value tells the direction.
odd-way : (d : Bool) (b : ℕ) → b % 2 ≡ 1 → up_j (least d b) ≡ d
odd-way true b e = eq-eqb (b % 2) 1 e
odd-way false b e = ne_eqb ((b - 1) % 2) 1 (omega arith)

way-odd : (d : Bool) (b : ℕ) → (d ≡ false → 1 ≤ b) → up_j (least d b) ≡ d → b % 2 ≡ 1
way-odd true b h e = eqb-true (b % 2) 1 e
way-odd false b h e = let ne = eqb-false ((b - 1) % 2) 1 e in let l = h refl in omega arith

pub j1-listed : (g D : ℕ) (s : Shape) → J1Cell g D s → Listed g D up_j s
j1-listed g D s c = record {
  size = c.size;
  order = c.order;
  directions = c.directions;
  ways = λ j h. odd-way (way s j) (slice_index s.base j) (odd j h);
  solid = λ j h e. let o : get_or s.base j 0 % 2 ≡ 1 = odd j h in omega arith;
  corners = c.corners;
}
  where
    odd : (j : ℕ) → j < g → slice_index s.base j % 2 ≡ 1
    odd j h = All-get_or (λ u. u % 2 ≡ 1) s.base j 0 (omega (arith, c.size)) c.odd

pub listed-j1 : (g D : ℕ) (s : Shape) → Listed g D up_j s → J1Cell g D s
listed-j1 g D s c = record {
  size = c.size;
  odd = All-from_get_or (λ u. u % 2 ≡ 1) s.base 0 (λ j h. let l : j < g = omega (arith, c.size) in way-odd (way s j) (slice_index s.base j) (c.solid j l) (c.ways j l));
  order = c.order;
  directions = c.directions;
  corners = c.corners;
}
