-- Tables of corners.
--   corner-in     the corner at a place
--   set-in        one corner of a table is set
--   label-set     one label of a table is set
--   blank-is      a table with no corner placed
--   shifted-is    a table with one corner dropped and another put in
--   moved_down, moved_up    the corners between the two places move on by one
--   put-at        a corner is put at a place
use Rattle.std.proofs.Common.{◌≡◌, ℕ, suc, ◌+◌, ◌-◌, ◌<◌, ◌≤◌, min, cond, eqb, List, [], map, length, get_or, take, set, replicate, sym, ap, ◌∙◌, inl, inr, arith}
use Rattle.std.specs.List.{CopiedTo, SameBelow, SameFrom}
use lib.ListN.{get_or-map}
use lib.Seq.{take-nil, take-set-lt}
use Rattle.std.proofs.lemmas.List.{get_or-take, get_or-set_same, get_or-set_other, map-set, take-replicate, length-take-le, length-map}
use Rattle.std.proofs.lemmas.Bool.{cases_eq, cases_lt, cond-true, cond-false, eq-eqb, ne_eqb}
use Rattle.std.proofs.lemmas.Bool.Decides.{nat_tests}
use Rattle.state.specs.declared.corner.Corner.{Corner}
use Rattle.state.specs.Views.{corner_of, corners_of, corner_at, labelling, came_from, shifted}
use Rattle.state.proofs.Listed.{is-listed}

-- What stands past the end of a table.
abbrev pub none : Corner
none = record { levels = []; label = 0 }

none_is : (g : ℕ) → corner_of g none ≡ ([], 0)
none_is g = ap (λ (u : List ℕ). (u, 0)) (take-nil g)

pub corner-in : (g : ℕ) (table : List Corner) (i : ℕ) → i ≤ g → corner_at (corners_of g table) i ≡ corner_of g (get_or table i none)
corner-in g table i low =
    get_or-take (suc g) (map (corner_of g) table) i ([], 0) (omega arith) ∙ ap (get_or (map (corner_of g) table) i) (sym (none_is g))
    ∙ get_or-map (corner_of g) table i none

pub set-in : (g : ℕ) (table : List Corner) (i : ℕ) (c : Corner) → i ≤ g → corners_of g (set table i c) ≡ set (corners_of g table) i (corner_of g c)
set-in g table i c low = ap (take (suc g)) (map-set (corner_of g) table i c) ∙ take-set-lt (suc g) (map (corner_of g) table) i (corner_of g c) (omega arith)

pub label-set : (g : ℕ) (table : List Corner) (i l : ℕ) → i ≤ g
    → corners_of g (set table i (record { levels = (get_or table i none).levels; label = l })) ≡ labelling (corners_of g table) i l
label-set g table i l low =
    set-in g table i _ low ∙ ap (λ (u : List ℕ). set (corners_of g table) i (u, l)) (sym (ap (λ z. z.0) (corner-in g table i low)))

pub blank-is : (g : ℕ) → g ≤ 8 → corners_of g (replicate 9 (record { levels = replicate 8 0; label = 0 })) ≡ replicate (suc g) (replicate g 0, 0)
blank-is g low =
    take-replicate (suc g) 9 (take g (replicate 8 0), 0) (omega arith) ∙ ap (λ (u : List ℕ). replicate (suc g) (u, 0)) (take-replicate g 8 0 low)

-- The old place of a corner that is not the new one is a place of the cell.
came-low : (g d k i : ℕ) → i ≤ g → k ≤ g → (i ≡ k → ⊥) → came_from d k i ≤ g
came-low g d k i low in_Cell other = grind (arith, nat_tests)

pub shifted-is : (g : ℕ) (table next : List Corner) (d k : ℕ) (c : Corner) → k ≤ g → suc g ≤ length next → c.label ≡ 0
    → ((i : ℕ) → i ≤ g → get_or next i none ≡ cond (eqb i k) c (get_or table (came_from d k i) none))
    → corners_of g next ≡ shifted g (corners_of g table) d k (take g c.levels)
shifted-is g table next d k c in_Cell room unlabelled places =
    is-listed (suc g) _ ([], 0) (corners_of g next)
    (length-take-le (suc g) (map (corner_of g) next) (rw length-map room))
    (λ i h. corner-in g next i (omega arith) ∙ ap (corner_of g) (places i (omega arith)) ∙ same i (omega arith))
  where
    old : ℕ → Corner
    old i = get_or table (came_from d k i) none

    same : (i : ℕ) → i ≤ g
        → corner_of g (cond (eqb i k) c (old i)) ≡ cond (eqb i k) (take g c.levels, 0) (corner_at (corners_of g table) (came_from d k i))
    same i low =
        elim (cases_eq i k) [
          | inl e ↦ ap (corner_of g) (cond-true _ c (old i) (eq-eqb i k e)) ∙ ap (λ l. (take g c.levels, l)) unlabelled ∙ sym (cond-true _ _ _ (eq-eqb i k e))
          | inr ne ↦ ap (corner_of g) (cond-false _ c (old i) (ne_eqb i k ne)) ∙ sym (corner-in g table (came_from d k i) (came-low g d k i low in_Cell ne))
              ∙ sym (cond-false _ _ _ (ne_eqb i k ne))
        ]

-- The old places of the corners before both places, between them, and after both.
came-before : (d k i : ℕ) → i < k → i < d → came_from d k i ≡ i
came-before d k i before kept = grind (arith, nat_tests)

came-next : (d k i : ℕ) → i < k → d ≤ i → came_from d k i ≡ i + 1
came-next d k i before gone = grind (arith, nat_tests)

came-after : (d k i : ℕ) → k < i → d < i → came_from d k i ≡ i
came-after d k i after gone = grind (arith, nat_tests)

came-last : (d k i : ℕ) → k < i → i ≤ d → came_from d k i ≡ i - 1
came-last d k i after kept = grind (arith, nat_tests)

module _ (xs ys : List Corner) (d k gap : ℕ) (is : gap ≡ min d 8) where
  pub moved_down : gap < k → k ≤ 8 → CopiedTo xs ys (gap + 1) gap ((k + 1) - (gap + 1)) → SameBelow xs ys gap → SameFrom xs ys (gap + ((k + 1) - (gap + 1)))
      → (i : ℕ) → i ≤ 8 → (i ≡ k → ⊥) → get_or ys i none ≡ get_or xs (came_from d k i) none
  moved_down before low copied below from i in_Cell other =
      let gone : gap ≡ d = omega (arith, is) in
      elim (cases_lt i gap) [
        | inl h ↦ below i none h ∙ ap (λ n. get_or xs n none) (sym (came-before d k i (omega arith) (omega arith)))
        | inr h ↦ elim (cases_lt i k) [
          | inl l ↦ let e : (gap + 1) + (i - gap) ≡ i + 1 = omega arith in
              copied i none h (omega arith) ∙ ap (λ n. get_or xs n none) (e ∙ sym (came-next d k i l (omega arith)))
          | inr l ↦ from i none (omega arith) ∙ ap (λ n. get_or xs n none) (sym (came-after d k i (omega arith) (omega arith)))
        ]
      ]

  pub moved_up : k ≤ gap → CopiedTo xs ys k (k + 1) (gap - k) → SameBelow xs ys (k + 1) → SameFrom xs ys ((k + 1) + (gap - k))
      → (i : ℕ) → i ≤ 8 → (i ≡ k → ⊥) → get_or ys i none ≡ get_or xs (came_from d k i) none
  moved_up before copied below from i in_Cell other =
      elim (cases_lt i k) [
        | inl h ↦ below i none (omega arith) ∙ ap (λ n. get_or xs n none) (sym (came-before d k i h (omega (arith, is))))
        | inr h ↦ elim (cases_lt gap i) [
          | inl l ↦ from i none (omega arith) ∙ ap (λ n. get_or xs n none) (sym (came-after d k i (omega arith) (omega (arith, is))))
          | inr l ↦ let e : k + (i - (k + 1)) ≡ i - 1 = omega arith in
              copied i none (omega arith) (omega arith) ∙ ap (λ n. get_or xs n none) (e ∙ sym (came-last d k i (omega arith) (omega (arith, is))))
        ]
      ]

pub put-at : (g : ℕ) (ys : List Corner) (k : ℕ) (c : Corner) (old : ℕ → Corner) → k < length ys → ((i : ℕ) → i ≤ g → (i ≡ k → ⊥) → get_or ys i none ≡ old i)
    → (i : ℕ) → i ≤ g → get_or (set ys k c) i none ≡ cond (eqb i k) c (old i)
put-at g ys k c old room others i low =
    elim (cases_eq i k) [
      | inl e ↦ (rw e (get_or-set_same ys k c none room)) ∙ sym (cond-true (eqb i k) c (old i) (eq-eqb i k e))
      | inr ne ↦ get_or-set_other ys k i c none ne ∙ others i low ne ∙ sym (cond-false (eqb i k) c (old i) (ne_eqb i k ne))
    ]
