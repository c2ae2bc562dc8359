-- What hexadecimal digits stand for.
--   digit               the value of one
--   byte_of, decoded     the byte of two, the bytes of many
use Rattle.std.specs.Prelude.{ℕ, ◌+◌, ◌-◌, ◌*◌, ◌&&◌, leb, List, [], ◌∷◌, cond}

-- 0 to 9 and a to f; any other character is worth 0.
abbrev pub digit : ℕ → ℕ
digit c = cond (leb 48 c && leb c 57) (c - 48) (cond (leb 97 c && leb c 102) (c - 87) 0)

-- The first digit counts sixteen.
abbrev pub byte_of : List ℕ → ℕ
byte_of (high ∷ low ∷ rest) = digit high * 16 + digit low
byte_of _ = 0

-- A byte for each two digits; an odd last digit counts nothing.
abbrev pub decoded : List ℕ → List ℕ
decoded (high ∷ low ∷ rest) = byte_of (high ∷ low ∷ []) ∷ decoded rest
decoded _ = []
