-- A field reads back as it was written, whatever comes after it, and passes every check if its body does.
use Rattle.std.proofs.Common.{◌≡◌, ℕ, ◌+◌, true, leb, List, ◌++◌, length, drop, sym, ◌∙◌, arith, length-append}
use native.Mathlib.Nat.{div-add-mod}
use Rattle.std.proofs.lemmas.List.{take_at, drop_at, drop-drop}
use Rattle.std.proofs.lemmas.Bool.{le-leb}
use Rattle.layout.specs.Layout.{field}
use Rattle.layout.specs.Faults.{Due, length_of, body_of, tag_due, length_fits, value_fits, weights_fit, flaw}

module _ (tag : ℕ) (body rest : List ℕ) where
  pub length_back : length_of (field tag body ++ rest) ≡ length body
  length_back = div-add-mod (length body) 256

  pub body_back : body_of (field tag body ++ rest) ≡ body
  body_back = take_at body rest (length_of (field tag body ++ rest)) (sym length_back)

  pub rest_back : drop (3 + length_of (field tag body ++ rest)) (field tag body ++ rest) ≡ rest
  rest_back =
      sym (drop-drop (length_of (field tag body ++ rest)) 3 (field tag body ++ rest))
      ∙ drop_at body rest (length_of (field tag body ++ rest)) (sym length_back)

  head-there : leb 3 (length (field tag body ++ rest)) ≡ true
  head-there = le-leb 3 (length (field tag body ++ rest)) (omega arith)

  body-there : leb (3 + length_of (field tag body ++ rest)) (length (field tag body ++ rest)) ≡ true
  body-there = le-leb _ _ (omega (arith, length_back, length-append body rest))

  pub passes :
      (d : Due) → tag_due d tag ≡ true → length_fits d (length body) ≡ true → value_fits d body ≡ true → weights_fit d body ≡ true
      → flaw d (field tag body ++ rest) ≡ 0
  passes d t l v w = rw (head-there, body-there, body_back, length_back, t, l, v, w)
