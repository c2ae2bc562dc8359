-- What reading a field answers, by the first check that fails.
use Rattle.std.proofs.Common.{◌≡◌, ℕ, ◌+◌, ◌-◌, ◌≤◌, true, false, ◌&&◌, List, [], ◌∷◌, length, take, drop, Ok, Err, sym, refl, ap, ◌∙◌, arith}
use Rattle.std.proofs.lemmas.List.{take_rest, length-drop}
use Rattle.std.proofs.lemmas.Bool.{le-leb}
use Rattle.std.specs.List.{list_all}
use Rattle.layout.specs.Layout.{printing}
use Rattle.layout.specs.Faults.{Due, tag_of, length_of, body_of, tag_due, length_fits, value_fits, all_print}
use Rattle.market.specs.Fields.{due_tag, field_for}
use Rattle.market.proofs.FieldTells.{Answer}

module _ (d : Due) (bytes : List ℕ) (place : ℕ) where
  pub value-off : 3 ≤ length bytes → tag_due d (tag_of bytes) ≡ true → length_fits d (length_of bytes) ≡ true → 3 + length_of bytes ≤ length bytes
      → value_fits d (body_of bytes) ≡ false → ◌≡◌ {A = Answer} (Err (24, place ∷ [])) (field_for d bytes place)
  value-off head tag size whole off = rw (le-leb 3 (length bytes) head, tag, size, le-leb (3 + length_of bytes) (length bytes) whole, off)

  pub field-good : 3 ≤ length bytes → tag_due d (tag_of bytes) ≡ true → length_fits d (length_of bytes) ≡ true → 3 + length_of bytes ≤ length bytes
      → value_fits d (body_of bytes) ≡ true → ◌≡◌ {A = Answer} (Ok (due_tag d, body_of bytes, place)) (field_for d bytes place)
  field-good head tag size whole on = rw (le-leb 3 (length bytes) head, tag, size, le-leb (3 + length_of bytes) (length bytes) whole, on)

-- The body, as the code takes it from what follows the head.
pub body_is : (bytes : List ℕ) (n : ℕ) → take n (take (length bytes - 3) (drop 3 bytes)) ≡ take n (drop 3 bytes)
body_is bytes n = ap (take n) (take_rest bytes 3)

-- What follows the head is that much shorter.
pub length_rest : (bytes : List ℕ) → length (take (length bytes - 3) (drop 3 bytes)) ≡ length bytes - 3
length_rest bytes = ap length (take_rest bytes 3) ∙ length-drop 3 bytes

-- The answer for a field whose body the code has taken from what follows the head, n being the length that the head says.
pub passed : (d : Due) (bytes : List ℕ) (place n : ℕ) → n ≡ length_of bytes → 3 ≤ length bytes → true ≡ tag_due d (tag_of bytes) → true ≡ length_fits d n
    → n ≤ length (take (length bytes - 3) (drop 3 bytes))
    → true ≡ value_fits d (take n (take (length bytes - 3) (drop 3 bytes)))
    → ◌≡◌ {A = Answer} (Ok (due_tag d, take n (take (length bytes - 3) (drop 3 bytes)), place)) (field_for d bytes place)
passed d bytes place n is head tag size whole value =
    let body : take n (take (length bytes - 3) (drop 3 bytes)) ≡ body_of bytes = body_is bytes n ∙ ap (λ k. take k (drop 3 bytes)) is in
    ap (λ b. Ok (due_tag d, b, place)) body
    ∙ field-good d bytes place head (sym tag) (ap (length_fits d) (sym is) ∙ sym size) (omega (arith, length_rest bytes)) (ap (value_fits d) (sym body) ∙ sym value)

-- A body that is out of range.
pub failed : (d : Due) (bytes : List ℕ) (place n : ℕ) → n ≡ length_of bytes → 3 ≤ length bytes → true ≡ tag_due d (tag_of bytes) → true ≡ length_fits d n
    → n ≤ length (take (length bytes - 3) (drop 3 bytes))
    → false ≡ value_fits d (take n (take (length bytes - 3) (drop 3 bytes)))
    → ◌≡◌ {A = Answer} (Err (24, place ∷ [])) (field_for d bytes place)
failed d bytes place n is head tag size whole value =
    let body : take n (take (length bytes - 3) (drop 3 bytes)) ≡ body_of bytes = body_is bytes n ∙ ap (λ k. take k (drop 3 bytes)) is in
    value-off d bytes place head (sym tag) (ap (length_fits d) (sym is) ∙ sym size) (omega (arith, length_rest bytes)) (ap (value_fits d) (sym body) ∙ sym value)

-- The library's test of every byte.
pub every_prints : (bytes : List ℕ) → list_all printing bytes ≡ all_print bytes
every_prints [] = refl
every_prints (b ∷ bytes) = ap (λ r. printing b && r) (every_prints bytes)
