-- The market file: what it says, and how it is written.
--   Economy          what a file says: the names of the goods, the weight sum, the traders
--   two, field       how a number of two bytes and a field are written
--   file_of           the file of an economy
--   WellFormed       every value is in its range, and each trader's weights add up
--   Valid            well formed, and every good is owned by somebody
-- A file is a list of bytes.
use Rattle.std.specs.Prelude.{◌≡◌, ℕ, ◌/◌, ◌%◌, ◌<◌, ◌≤◌, Bool, true, List, [], ◌∷◌, ◌++◌, length}
use Rattle.std.specs.List.{flat_map, AllByRecursion}
use Rattle.mesh.specs.Range.{between, fit_goods}
use Rattle.trade.specs.Trade.{Trader, Fair, owned_in_all}

pub record Economy : Type 0 where
  pub goods : ℕ
  pub names : List (List ℕ)
  pub sum : ℕ
  pub traders : List Trader

-- A number in two bytes, the high one first.
abbrev pub two : ℕ → List ℕ
two n = n / 256 ∷ n % 256 ∷ []

-- A field: its tag, the length of its body in two bytes, its body.
abbrev pub field : ℕ → List ℕ → List ℕ
field tag body = tag ∷ (two (length body) ++ body)

-- Field 1: the number of goods.
abbrev pub goods_field : ℕ → List ℕ
goods_field g = field 1 (g ∷ [])

-- Field 2: the name of a good.
abbrev pub name_field : List ℕ → List ℕ
name_field name = field 2 name

-- Field 3: what each trader's weights add up to.
abbrev pub sum_field : ℕ → List ℕ
sum_field S = field 3 (two S)

-- Field 4: what a trader owns of each good, then how it weighs each.
abbrev pub trader_field : Trader → List ℕ
trader_field t = field 4 (flat_map two t.owns ++ flat_map two t.weighs)

-- The file of an economy: the number of goods, a name for each good, the weight sum, the traders.
abbrev pub file_of : Economy → List ℕ
file_of e = goods_field e.goods ++ (flat_map name_field e.names ++ (sum_field e.sum ++ flat_map trader_field e.traders))

-- A printing character of ASCII, or a blank: 20 to 7E in hexadecimal.
abbrev pub printing : ℕ → Bool
printing b = between 32 126 b

-- A name of 1 to 32 printing characters.
pub record NameFits (name : List ℕ) : Type 0 where
  pub size : between 1 32 (length name) ≡ true
  pub prints : AllByRecursion (λ b. printing b ≡ true) name

-- The weight sum is 1 to 1,000.
abbrev pub fit_sum : ℕ → Bool
fit_sum S = between 1 1000 S

-- A trader of g goods whose weights add up to S, with no number of more than two bytes.
pub record TraderFits (g S : ℕ) (t : Trader) : Type 0 where
  pub fair : Fair g S t
  pub owned : AllByRecursion (λ n. n < 65536) t.owns
  pub weighed : AllByRecursion (λ n. n < 65536) t.weighs

pub record WellFormed (e : Economy) : Type 0 where
  pub goods : fit_goods e.goods ≡ true
  pub named : length e.names ≡ e.goods
  pub names : AllByRecursion NameFits e.names
  pub sum : fit_sum e.sum ≡ true
  pub some : between 1 16 (length e.traders) ≡ true
  pub traders : AllByRecursion (TraderFits e.goods e.sum) e.traders

pub record Valid (e : Economy) : Type 0 where
  pub formed : WellFormed e
  pub owned : (j : ℕ) → 1 ≤ j → j ≤ e.goods → 0 < owned_in_all e.traders j
