-- The bytes of one field more.
--   field-more             the front of a file up to the end of a whole field: what was before it, and the field
--   cut-body               the span of a body marks that body
--   one_byte, two_bytes    short bodies, byte by byte
use Rattle.std.proofs.Common.{◌≡◌, ℕ, ◌+◌, ◌*◌, ◌/◌, ◌%◌, ◌<◌, ◌≤◌, List, [], ◌∷◌, ◌++◌, length, get_or, take, drop, sym, refl, ap, ◌∙◌, append_assoc, mul_comm, arith}
use lib.Arith.{digits_div, digits_mod}
use Rattle.std.proofs.lemmas.List.{drop-drop, length-append, length-take-le, length-drop, take-append-drop, take_at}
use Rattle.layout.specs.Layout.{two, field}
use Rattle.layout.specs.Faults.{tag_of, length_of, body_of}
use Rattle.layout.proofs.Steps.{field-here}
use Rattle.market.specs.Rows.{cut}

module _ (bytes : List ℕ) (head : 3 ≤ length bytes) (whole : 3 + length_of bytes ≤ length bytes) where
  pub body-length : length (body_of bytes) ≡ length_of bytes
  body-length = length-take-le (length_of bytes) (drop 3 bytes) (rw length-drop (omega arith))

module _ (file : List ℕ) (at : ℕ) (within : at ≤ length file) where
  front-more : (new rest : List ℕ) → drop at file ≡ new ++ rest → take (at + length new) file ≡ take at file ++ new
  front-more new rest e =
      let whole : file ≡ (take at file ++ new) ++ rest =
      sym (take-append-drop at file) ∙ ap (λ r. take at file ++ r) e ∙ sym (append_assoc (take at file) new rest)
      in
      let size : length (take at file ++ new) ≡ at + length new = length-append (take at file) new ∙ ap (λ k. k + length new) (length-take-le at file within) in
      ap (take (at + length new)) whole ∙ take_at (take at file ++ new) rest (at + length new) size

  pub field-more : 3 ≤ length (drop at file) → length_of (drop at file) ≤ 32 → 3 + length_of (drop at file) ≤ length (drop at file)
      → take (at + 3 + length (body_of (drop at file))) file ≡ take at file ++ field (tag_of (drop at file)) (body_of (drop at file))
  field-more head small whole =
      let size : at + 3 + length (body_of (drop at file)) ≡ at + length (field (tag_of (drop at file)) (body_of (drop at file))) = omega arith in
      ap (λ k. take k file) size
      ∙ front-more (field (tag_of (drop at file)) (body_of (drop at file))) (drop (3 + length_of (drop at file)) (drop at file))
      (field-here (drop at file) head (omega arith) whole)

  pub cut-body : 3 ≤ length (drop at file) → 3 + length_of (drop at file) ≤ length (drop at file)
      → cut file (record { at = at + 3; len = length (body_of (drop at file)) }) ≡ body_of (drop at file)
  cut-body head whole =
      ap (λ k. take k (drop (at + 3) file)) (body-length (drop at file) head whole)
      ∙ ap (take (length_of (drop at file))) (sym (drop-drop 3 at file))

pub one_byte : (body : List ℕ) → length body ≡ 1 → body ≡ get_or body 0 0 ∷ []
one_byte [] e = absurd (omega arith)
one_byte (a ∷ []) e = refl
one_byte (a ∷ (b ∷ bs)) e = absurd (omega arith)

pub two_bytes : (body : List ℕ) → length body ≡ 2 → get_or body 1 0 < 256 → body ≡ two (256 * get_or body 0 0 + get_or body 1 0)
two_bytes [] e low = absurd (omega arith)
two_bytes (a ∷ []) e low = absurd (omega arith)
two_bytes (a ∷ (b ∷ [])) e low =
    let high : (256 * a + b) / 256 ≡ a = ap (λ n. (n + b) / 256) (mul_comm 256 a) ∙ digits_div a low in
    let rest : (256 * a + b) % 256 ≡ b = ap (λ n. (n + b) % 256) (mul_comm 256 a) ∙ digits_mod a low in
    cc
two_bytes (a ∷ (b ∷ (c ∷ bs))) e low = absurd (omega arith)
