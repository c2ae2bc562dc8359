-- How many different elements a list has.
--   drop-one          a list without one of its elements: one shorter, and all others still stand in it
--   single-shorter    a list with nothing twice is no longer than a list in which all its elements stand
--   all-different     a list with nothing twice has as many different elements as it is long
use Rattle.std.proofs.Common.{◌≡◌, suc, ◌≤◌, List, [], ◌∷◌, length, sym, refl, ap, ◌∙◌, subst, inl, inr, arith}
use Rattle.path.specs.Lists.{In, Single, Different}

module _ {A : Type 0} where
  -- The list ys without x, which stands in it.
  record Without (x : A) (ys : List A) : Type 0 where
    rest : List A
    size : length ys ≡ suc (length rest)
    kept : (y : A) → (y ≡ x → ⊥) → In y ys → In y rest

  drop-one : (x : A) (ys : List A) → In x ys → Without x ys
  drop-one x [] h = absurd h
  drop-one x (y ∷ ys) (inl e) = record { rest = ys; size = refl; kept = λ z other. elim [ inl is ↦ absurd (other (is ∙ sym e)) | inr later ↦ later ] }
  drop-one x (y ∷ ys) (inr h) = let w = drop-one x ys h in record { rest = y ∷ w.rest; size = ap suc w.size; kept = λ z other. elim [ inl is ↦ inl is | inr later ↦ inr (w.kept z other later) ] }

  pub single-shorter : (xs ys : List A) → Single xs → ((x : A) → In x xs → In x ys) → length xs ≤ length ys
  single-shorter [] ys single all = omega arith
  single-shorter (x ∷ xs) ys single all =
      let w = drop-one x ys (all x (inl refl)) in
      let h = single-shorter xs w.rest single.1 (λ y stands. w.kept y (λ e. single.0 (subst (λ z. In z xs) e stands)) (all y (inr stands))) in
      omega (arith, w.size)

pub all-different : {A : Type 0} (xs : List A) → Single xs → Different xs (length xs)
all-different xs single = record { each = xs; single = single; all = λ x h. h; only = λ x h. h; size = refl }
