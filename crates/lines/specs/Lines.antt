-- The bytes of the printed lines.
use Rattle.std.specs.Prelude.{◌≡◌, ℕ, List, [], ◌∷◌, ◌++◌, map, ℤ, Ok, Err, string_bytes, codes, decimal, Result, String, ◌≢◌}
use Rattle.std.specs.List.{flat_map}
use Rattle.std.specs.Option.{unwrap_or}
use Rattle.std.specs.Fmt.{signed_decimal}
use Rattle.std.specs.declared.alloc.Global.{Global}
use Rattle.std.specs.declared.io.ErrorKind.{ErrorKind}
use Rattle.std.specs.declared.io.ErrorKind.TheVariants.{OutOfMemory, InvalidInput}
use Rattle.mesh.specs.Points.{goods_of, mesh_of, prices_of}
use Rattle.mesh.specs.Refusals.{Told, told, carried_by}
use Rattle.mesh.specs.declared.point.PricePoint.{PricePoint}
use Rattle.trade.specs.Trade.{goods_from}
use Rattle.market.specs.Markets.{goods_in, excess_at, market_rule}
use Rattle.market.specs.declared.market.Market.{Market}
use Rattle.lines.specs.declared.errors.LineError.{LineError}
use Rattle.lines.specs.declared.errors.LineError.TheVariants.{Memory, Refused}

-- The value that a refusal carries, 0 where it carries none.
abbrev pub place_in : Told → ℕ
place_in t = unwrap_or (carried_by t) 0

-- `fault 21 at 4`
abbrev pub fault_text : ℕ → ℕ → List ℕ
fault_text number place = codes "fault " ++ (decimal number ++ (codes " at " ++ decimal place))

-- `good 1: wheat, 40 owned`
abbrev pub good_text : ℕ → List ℕ → ℕ → List ℕ
good_text j name owned = codes "good " ++ (decimal j ++ (codes ": " ++ (name ++ (codes ", " ++ (decimal owned ++ codes " owned")))))

-- `2 traders, weight sum 2`
abbrev pub traders_text : ℕ → ℕ → List ℕ
traders_text n S = decimal n ++ (codes " traders, weight sum " ++ decimal S)

-- Each of some numbers after a blank, as f writes it.
abbrev pub spaced : {X : Type 0} → (X → List ℕ) → List X → List ℕ
spaced f xs = flat_map (λ x. 32 ∷ f x) xs

-- `mesh 8 open`
abbrev pub open_text : ℕ → List ℕ
open_text D = codes "mesh " ++ (decimal D ++ codes " open")

-- ` 2 2 | 1 3`: the numbers of each list after blanks, with a stroke between the lists
abbrev pub blocks : List (List ℕ) → List ℕ
blocks [] = []
blocks (x ∷ xs) = spaced decimal x ++ flat_map (λ y. codes " |" ++ spaced decimal y) xs

-- `mesh 4 cells 6: 2 2 | 1 3`, from the prices of each corner
abbrev pub arrival_text : ℕ → ℕ → List (List ℕ) → List ℕ
arrival_text D n corners = codes "mesh " ++ (decimal D ++ (codes " cells " ++ (decimal n ++ (codes ":" ++ blocks corners))))

-- `prices 1 3: excess 2 -2, label 2`, from the text of the prices and that of the excesses
abbrev pub point_text : List ℕ → List ℕ → ℕ → List ℕ
point_text prices excesses l = codes "prices" ++ (prices ++ (codes ": excess" ++ (excesses ++ (codes ", label " ++ decimal l))))

-- The excess of each good of a market at a point.
abbrev pub excesses_at : Market → PricePoint → List ℤ
excesses_at m p = map (excess_at m p) (goods_from 0 (goods_in m))

-- The line of a point: its prices, the excesses, and the market's label.
abbrev pub line_at : Market → PricePoint → List ℕ
line_at m p = point_text (spaced decimal (prices_of p)) (spaced signed_decimal (excesses_at m p)) (market_rule m (goods_of p) (mesh_of p) (prices_of p))

-- What asking for that line answers: with other goods than the market's it is refused with 3, else only for want of memory.
abbrev pub PointLine : Market → PricePoint → Result (String Global) LineError → Type 0
PointLine m p (Ok s) = (goods_of p ≡ goods_in m) × (string_bytes s ≡ line_at m p)
PointLine m p (Err Memory) = goods_of p ≡ goods_in m
PointLine m p (Err (Refused e)) = (goods_of p ≢ goods_in m) × (told e ≡ (3, []))

-- How a program is told that there is no line.
abbrev pub kind_of : LineError → ErrorKind
kind_of Memory = OutOfMemory
kind_of (Refused e) = InvalidInput
