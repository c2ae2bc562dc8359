-- Reading a byte string field by field.
--   next       what good fields and one more say
--   Runs       from good fields with some bytes unread, through further fields that pass, to others with less unread
--   one_end    all who read until a field fails stop at the same place, and were told the same
use Rattle.std.proofs.Common.{◌≡◌, ℕ, ◌+◌, ◌*◌, ◌<◌, cond, ltb, List, [], ◌∷◌, ◌++◌, length, get_or, take, drop, refl, arith}
use Rattle.trade.specs.Trade.{Trader}
use Rattle.layout.specs.Faults.{Beginning, empty, naming, trading, due, length_of, body_of, values, flaw}

-- The trader of g goods that a body tells of.
abbrev pub trader_in : ℕ → List ℕ → Trader
trader_in g body = record { owns = take g (values body); weighs = drop g (values body) }

abbrev pub next : Beginning → List ℕ → Beginning
next empty body = naming (get_or body 0 0) []
next (naming g names) body =
    cond (ltb (length names) g) (naming g (names ++ body ∷ [])) (trading g names (256 * get_or body 0 0 + get_or body 1 0) [])
next (trading g names S traders) body = trading g names S (traders ++ trader_in g body ∷ [])

pub data Runs : Beginning → List ℕ → Beginning → List ℕ → Type 0 where
  stop : {b : Beginning} {bytes : List ℕ} → Runs b bytes b bytes
  more :
      {b c : Beginning} {bytes rest : List ℕ} → flaw (due b) bytes ≡ 0
      → Runs (next b (body_of bytes)) (drop (3 + length_of bytes) bytes) c rest → Runs b bytes c rest

pub one_end :
    {b c d : Beginning} {bytes rest left : List ℕ} → Runs b bytes c rest → 0 < flaw (due c) rest → Runs b bytes d left
    → 0 < flaw (due d) left → (c ≡ d) × (rest ≡ left)
one_end stop f stop k = (refl, refl)
one_end stop f (more z r) k = absurd (omega arith)
one_end (more z q) f stop k = absurd (omega arith)
one_end (more z q) f (more y r) k = one_end q f r k
