-- Worked examples of the definitions, in one list.
use Rattle.std.specs.Prelude.{◌≡◌, ℕ, true, false, cond, List, [], ◌∷◌, pos, negsuc, ◌==◌}
use Rattle.mesh.specs.Prices.{to_levels, to_prices}
use Rattle.trade.specs.Trade.{Trader, excess, market_label}
use Rattle.layout.specs.Layout.{Economy, file_of}
use Rattle.cells.specs.Corners.{outer_wall, good_wall}
use Rattle.cells.specs.Counting.{bound}
use Rattle.cells.specs.Triangulation.{Shape, wall, moved, Mesh}
use Rattle.labelling.specs.Labels.{Rule}
use Rattle.labelling.specs.Sheets.{sheet_rule}
use Rattle.path.specs.Path.{Opening, Call, step, ticket, named, Path, count_of, Leads}
use Rattle.todd_laws.specs.K1.{k1}
use Rattle.todd_laws.specs.J1.{j1}

-- Two traders, who own one unit each, of the first and of the second good, and weigh both goods alike: the weight sum is 2.
abbrev pub swappers : List Trader
swappers =
    record { owns = 1 ∷ 0 ∷ []; weighs = 1 ∷ 1 ∷ [] } ∷ record { owns = 0 ∷ 1 ∷ []; weighs = 1 ∷ 1 ∷ [] } ∷ []

-- Their market, with the goods named a and b.
abbrev pub swap : Economy
swap = record { goods = 2; names = (97 ∷ []) ∷ (98 ∷ []) ∷ []; sum = 2; traders = swappers }

-- A cell of K1 on mesh 2: the base (2, 0, 0), the order 1 2 3.
abbrev pub k1_cell : Shape
k1_cell = record { base = 2 ∷ 0 ∷ 0 ∷ []; order = 1 ∷ 2 ∷ 3 ∷ []; ups = true ∷ true ∷ true ∷ [] }

-- A cell of J1: the base (5, 1), the order 2 1, level 1 down and level 2 up.
abbrev pub j1_cell : Shape
j1_cell = record { base = 5 ∷ 1 ∷ []; order = 2 ∷ 1 ∷ []; ups = false ∷ true ∷ [] }

-- Every point of the market with two goods is labelled by its traders.
abbrev pub swap_rule : Rule
swap_rule g D x = cond (g == 2) (market_label 2 2 swappers x) 0

-- A run with the number 7, on mesh 4 of two goods, from all 4 on good 1.
abbrev pub from_first : Opening
from_first = record { number = 7; goods = 2; mesh = 4; start = 4 ∷ 0 ∷ [] }

abbrev pub six_steps : List Call
six_steps = step ∷ step ∷ step ∷ step ∷ step ∷ step ∷ []

-- The calls lead to an arrival in their last step, with so many cells entered.
pub record ArrivesWith (T : (g D : ℕ) → Mesh Shape g D) (L : Rule) (o : Opening) (calls : List Call) (n : ℕ) : Type 0 where
  pub path : Path
  pub leads : Leads T L o calls path
  pub said : path.said ≡ ticket o.number o.mesh
  pub count : count_of path ≡ n

-- They lead to a halt in their last step, at the prices x with the label l.
pub record HaltsWith (T : (g D : ℕ) → Mesh Shape g D) (L : Rule) (o : Opening) (calls : List Call) (x : List ℕ) (l n : ℕ) : Type 0 where
  pub path : Path
  pub leads : Leads T L o calls path
  pub said : path.said ≡ named x l
  pub count : count_of path ≡ n

pub record WorkedExamples : Type 0 where
  -- levels are sums of prices, prices are differences of levels
  pub levels : to_levels (1 ∷ 3 ∷ []) ≡ 4 ∷ 3 ∷ []
  pub prices : to_prices (4 ∷ 3 ∷ []) ≡ 1 ∷ 3 ∷ []
  -- at the prices 1 and 3 the first good is short by 2, the second in surplus by 2, and the label is 2
  pub first_short : excess 2 swappers (1 ∷ 3 ∷ []) 1 ≡ pos 2
  pub second_spare : excess 2 swappers (1 ∷ 3 ∷ []) 2 ≡ negsuc 1
  pub label_second : market_label 2 2 swappers (1 ∷ 3 ∷ []) ≡ 2
  -- at the prices 2 and 2 both clear, and the label is 1
  pub label_first : market_label 2 2 swappers (2 ∷ 2 ∷ []) ≡ 1
  -- a good with the price 0 does not label the point, though its excess is 0 as well
  pub label_priced : market_label 2 2 (record { owns = 0 ∷ 1 ∷ []; weighs = 0 ∷ 2 ∷ [] } ∷ []) (0 ∷ 4 ∷ []) ≡ 2
  -- the market's file has 39 bytes
  pub file : file_of swap
      ≡ 1 ∷ 0 ∷ 1 ∷ 2
      ∷ 2 ∷ 0 ∷ 1 ∷ 97
      ∷ 2 ∷ 0 ∷ 1 ∷ 98
      ∷ 3 ∷ 0 ∷ 2 ∷ 0 ∷ 2
      ∷ 4 ∷ 0 ∷ 8 ∷ 0 ∷ 1 ∷ 0 ∷ 0 ∷ 0 ∷ 1 ∷ 0 ∷ 1
      ∷ 4 ∷ 0 ∷ 8 ∷ 0 ∷ 0 ∷ 0 ∷ 1 ∷ 0 ∷ 1 ∷ 0 ∷ 1 ∷ []
  -- how many cells there can be: (D + 1)^g - D^g
  pub cells_1_2 : bound 2 1 ≡ 3
  pub cells_4_2 : bound 2 4 ≡ 9
  pub cells_2_3 : bound 3 2 ≡ 19
  -- K1 on mesh 2, with the base (2, 0, 0) and the order 1 2 3: the outer wall, a new corner (2, 1, 0), and the walls of goods 2 and 3
  pub k1_first : (k1 3 2).across k1_cell 0 ≡ wall outer_wall
  pub k1_second : (b : Shape) × ((k1 3 2).across k1_cell 1 ≡ moved b 1) × ((k1 3 2).corner b 1 ≡ 2 ∷ 1 ∷ 0 ∷ [])
  pub k1_third : (k1 3 2).across k1_cell 2 ≡ wall (good_wall 2)
  pub k1_last : (k1 3 2).across k1_cell 3 ≡ wall (good_wall 3)
  -- J1 with the base (5, 1), the order 2 1 and the directions down and up: across the first place the base (5, 3), both directions down
  pub j1_first : (j1 2 5).across j1_cell 0 ≡ moved (record { base = 5 ∷ 3 ∷ []; order = 2 ∷ 1 ∷ []; ups = false ∷ false ∷ [] }) 0
  -- J1 on mesh 5 admits (2, 2, 1) and not (1, 2, 2)
  pub j1_admits : (j1 3 5).admitted (2 ∷ 2 ∷ 1 ∷ []) ≡ true
  pub j1_does_not : (j1 3 5).admitted (1 ∷ 2 ∷ 2 ∷ []) ≡ false
  -- the market from (4, 0) on mesh 4: K1 and J1 each arrive in step 6, with 6 cells
  pub k1_arrives : ArrivesWith k1 swap_rule from_first six_steps 6
  pub j1_arrives : ArrivesWith j1 swap_rule from_first six_steps 6
  -- the sheet 2 1 1 2 2 from (4, 0): the first step halts at (4, 0) with the label 2, in the first cell
  pub sheet_halts : HaltsWith k1 (sheet_rule 4 (2 ∷ 1 ∷ 1 ∷ 2 ∷ 2 ∷ [])) from_first (step ∷ []) (4 ∷ 0 ∷ []) 2 1
