-- One field more: its bytes, and what they say.
--   values-two, values-both           numbers of two bytes read back as they were written
--   two_bytes                         two bytes are written as they were read
--   field-here                        bytes that begin with a whole field: that field, and what comes after it
--   one_name, the_sum, one-trader     the bytes of good fields and one more
--   all-print                         a name that passes the test has printing characters only
--   economy-bytes                     the file of an economy is the bytes of good fields
-- That what holds of each of some and of one more holds of each is `All-push` of the library.
use Rattle.std.proofs.Common.{◌≡◌, ℕ, ◌+◌, ◌*◌, ◌/◌, ◌%◌, ◌<◌, ◌≤◌, true, List, [], ◌∷◌, ◌++◌, length, get_or, drop, sym, refl, ap, ◌∙◌, append_assoc, mul_comm, arith}
use native.Mathlib.Nat.{div-add-mod}
use lib.Arith.{digits_div, digits_mod}
use Rattle.std.specs.List.{flat_map, AllByRecursion}
use Rattle.std.proofs.lemmas.List.{flat_map_more, drop-drop, length-take-le, take-append-drop}
use Rattle.std.proofs.lemmas.Bool.{and_parts}
use Rattle.trade.specs.Trade.{Trader}
use Rattle.layout.specs.Layout.{Economy, two, field, goods_field, name_field, sum_field, trader_field, file_of, printing}
use Rattle.layout.specs.Faults.{naming, trading, bytes_of, tag_of, length_of, body_of, values, all_print}

-- Two lists of numbers, one after the other.
pub values-both : (xs ys : List ℕ) → values (flat_map two xs ++ flat_map two ys) ≡ xs ++ ys
values-both [] [] = refl
values-both [] (y ∷ ys) = ap (λ n. n ∷ values (flat_map two ys)) (div-add-mod y 256) ∙ ap (λ ns. y ∷ ns) (values-both [] ys)
values-both (x ∷ xs) ys =
    ap (λ n. n ∷ values (flat_map two xs ++ flat_map two ys)) (div-add-mod x 256) ∙ ap (λ ns. x ∷ ns) (values-both xs ys)

pub values-two : (xs : List ℕ) → values (flat_map two xs) ≡ xs
values-two xs = values-both [] xs

-- A number of two bytes, taken apart again.
high_byte : (h l : ℕ) → l < 256 → (256 * h + l) / 256 ≡ h
high_byte h l low = ap (λ n. (n + l) / 256) (mul_comm 256 h) ∙ digits_div h low

low_byte : (h l : ℕ) → l < 256 → (256 * h + l) % 256 ≡ l
low_byte h l low = ap (λ n. (n + l) % 256) (mul_comm 256 h) ∙ digits_mod h low

-- Two bytes are written as they were read.
pub two_bytes : (h l : ℕ) → l < 256 → two (256 * h + l) ≡ h ∷ l ∷ []
two_bytes h l low = ap (λ n. n ∷ (256 * h + l) % 256 ∷ []) (high_byte h l low) ∙ ap (λ n. h ∷ n ∷ []) (low_byte h l low)

pub field-here :
    (bytes : List ℕ) → 3 ≤ length bytes → get_or bytes 2 0 < 256 → 3 + length_of bytes ≤ length bytes
    → bytes ≡ field (tag_of bytes) (body_of bytes) ++ drop (3 + length_of bytes) bytes
field-here [] head low whole = absurd (omega arith)
field-here (t ∷ []) head low whole = absurd (omega arith)
field-here (t ∷ (h ∷ [])) head low whole = absurd (omega arith)
field-here (t ∷ (h ∷ (l ∷ bs))) head low whole =
    let bytes : List ℕ = t ∷ h ∷ l ∷ bs in
    let size : length (body_of bytes) ≡ 256 * h + l = length-take-le (256 * h + l) bs (omega arith) in
    let high : length (body_of bytes) / 256 ≡ h = ap (λ n. n / 256) size ∙ high_byte h l low in
    let low' : length (body_of bytes) % 256 ≡ l = ap (λ n. n % 256) size ∙ low_byte h l low in
    let after : drop (3 + length_of bytes) bytes ≡ drop (256 * h + l) bs = sym (drop-drop (256 * h + l) 3 bytes) in
    let split = take-append-drop (256 * h + l) bs in
    cc

pub one_name :
    (g : ℕ) (names : List (List ℕ)) (name : List ℕ)
    → bytes_of (naming g (names ++ name ∷ [])) ≡ bytes_of (naming g names) ++ name_field name
one_name g names name = sym (flat_map_more name_field (goods_field g) names name)

pub the_sum : (g : ℕ) (names : List (List ℕ)) (S : ℕ) → bytes_of (trading g names S []) ≡ bytes_of (naming g names) ++ sum_field S
the_sum g names S = sym (append_assoc (goods_field g) (flat_map name_field names) (sum_field S))

pub one-trader :
    (g : ℕ) (names : List (List ℕ)) (S : ℕ) (ts : List Trader) (t : Trader)
    → bytes_of (trading g names S (ts ++ t ∷ [])) ≡ bytes_of (trading g names S ts) ++ trader_field t
one-trader g names S ts t =
    ap (λ r. goods_field g ++ (flat_map name_field names ++ r)) (sym (flat_map_more trader_field (sum_field S) ts t))
    ∙ ap (λ r. goods_field g ++ r) (sym (append_assoc (flat_map name_field names) (sum_field S ++ flat_map trader_field ts) (trader_field t)))

pub all-print : (bs : List ℕ) → all_print bs ≡ true → AllByRecursion (λ b. printing b ≡ true) bs
all-print [] h = tt
all-print (b ∷ bs) h = let parts = and_parts (printing b) (all_print bs) h in (parts.0, all-print bs parts.1)

pub economy-bytes : (e : Economy) → file_of e ≡ bytes_of (trading e.goods e.names e.sum e.traders)
economy-bytes e = refl
