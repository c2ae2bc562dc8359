-- What the numbers of a market say: its traders, row by row of a table, and where the names of its goods stand in a file.
use Rattle.std.specs.Prelude.{ℕ, Bool, true, ◌&&◌, List, [], ◌∷◌, map, length, take, drop, sum, ◌==◌, nat_lt}
use Rattle.trade.specs.Trade.{Trader}
use Rattle.market.specs.declared.rows.Trader as row
use Rattle.market.specs.declared.rows.Span.{Span}

-- The trader of g goods in a row: of each list the first g numbers.
abbrev pub trader_in : ℕ → row.Trader → Trader
trader_in g r = record { owns = take g r.owns; weighs = take g r.weighs }

-- The traders in some rows.
abbrev pub traders_in : ℕ → List row.Trader → List Trader
traders_in g rows = map (trader_in g) rows

-- Numbers of two bytes.
abbrev pub short : List ℕ → Bool
short [] = true
short (n ∷ ns) = nat_lt n 65536 && short ns

-- A trader of g goods, in numbers of two bytes, whose weights add up to S.
abbrev pub fits : ℕ → ℕ → Trader → Bool
fits g S t =
    (length t.owns == g && length t.weighs == g) && (sum t.weighs == S && (short t.owns && short t.weighs))

abbrev pub all_fit : ℕ → ℕ → List Trader → Bool
all_fit g S [] = true
all_fit g S (t ∷ ts) = fits g S t && all_fit g S ts

-- The bytes of a file that a span marks.
abbrev pub cut : List ℕ → Span → List ℕ
cut file s = take s.len (drop s.at file)

-- The names that the first n spans mark.
abbrev pub names_in : List ℕ → ℕ → List Span → List (List ℕ)
names_in file n spans = map (cut file) (take n spans)
