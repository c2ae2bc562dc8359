-- Tables of bytes, and what is read from a sheet.
use Rattle.std.specs.Prelude.{ℕ, zero, suc, ◌+◌, ◌≤◌, ◌&&◌, List, [], ◌∷◌, take, ◌==◌, slice_index}
use Rattle.std.proofs.Common.{arith}
use Rattle.std.proofs.lemmas.Bool.{cond_both}
use Rattle.mesh.specs.Prices.{to_levels}
use Rattle.labelling.specs.Sheets.{rule_of}
use Rattle.labelling.specs.declared.sheet.Sheet.{Sheet}

abbrev pub Bytes : List ℕ → Type 0
Bytes xs = (i : ℕ) → slice_index xs i ≤ 255

pub take-bytes : (n : ℕ) (xs : List ℕ) → Bytes xs → Bytes (take n xs)
take-bytes zero xs all i = omega arith
take-bytes (suc n) [] all i = omega arith
take-bytes (suc n) (x ∷ xs) all zero = all zero
take-bytes (suc n) (x ∷ xs) all (suc i) = take-bytes n xs (λ k. all (suc k)) i

-- A label on a sheet is 0 or a byte of it.
pub sheet-byte : (s : Sheet) (g D : ℕ) (x : List ℕ) → rule_of s g D x ≤ 255
sheet-byte s g D x =
    cond_both (g == 2 && D == s.mesh) (slice_index (take (s.mesh + 1) s.labels) (slice_index (to_levels x) 1)) 0 (λ n. n ≤ 255)
    (λ e. take-bytes (s.mesh + 1) s.labels s.bytes (slice_index (to_levels x) 1)) (λ e. omega arith)
