-- The bytes of many digits, pair by pair.
use Rattle.std.proofs.Common.{◌≡◌, ℕ, zero, suc, ◌+◌, ◌*◌, ◌/◌, ◌<◌, ◌≤◌, min, List, [], ◌∷◌, map, take, length, refl, sym, ap, ◌∙◌, arith}
use Rattle.std.specs.Simd.{first_chunks}
use Rattle.std.proofs.lemmas.List.{length-take, take_min, take_all, take-map}
use Rattle.input.specs.Hexadecimal.{byte_of, decoded}

by_pairs : (k : ℕ) (xs : List ℕ) → k * 2 ≤ length xs → length xs < k * 2 + 2 → decoded xs ≡ map byte_of (first_chunks 2 k xs)
by_pairs zero [] low high = refl
by_pairs zero (a ∷ []) low high = refl
by_pairs zero (a ∷ b ∷ rest) low high = absurd (omega arith)
by_pairs (suc k) [] low high = absurd (omega arith)
by_pairs (suc k) (a ∷ []) low high = absurd (omega arith)
by_pairs (suc k) (a ∷ b ∷ rest) low high = ap (λ bytes. byte_of (a ∷ b ∷ []) ∷ bytes) (by_pairs k rest (omega arith) (omega arith))

-- Where the pairs for which there is room are written, the bytes of the digits are.
pub all_written : (digits room : List ℕ) (pairs : List (List ℕ)) (n count i : ℕ) → pairs ≡ first_chunks 2 (length digits / 2) digits → length pairs ≡ length digits / 2
    → count ≡ min (length pairs) n → length (take count pairs) ≤ i → i ≤ length (take count pairs) → take i room ≡ map byte_of (take i (take count pairs))
    → take count room ≡ take n (decoded digits)
all_written digits room pairs n count i are many fits low high here =
    let size = length-take count pairs in
    let at : i ≡ count = omega arith in
    let front : take i (take count pairs) ≡ take count pairs = take_all i (take count pairs) low in
    let room_for : count ≡ min n (length pairs) = omega arith in
    let short : take count pairs ≡ take n pairs = ap (λ k. take k pairs) room_for ∙ take_min n pairs in
    let bytes : decoded digits ≡ map byte_of pairs = by_pairs (length digits / 2) digits (omega arith) (omega arith) ∙ ap (map byte_of) (sym are) in
    ap (λ k. take k room) (sym at) ∙ here ∙ ap (map byte_of) (front ∙ short) ∙ sym (take-map byte_of n pairs) ∙ ap (take n) (sym bytes)
