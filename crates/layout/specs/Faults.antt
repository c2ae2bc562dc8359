-- The first fault of a byte string that is no market file.
--   Beginning     good fields in their due order, from the start of a file: what they say
--   due           which field is due after them
--   flaw          the first check that the bytes after them fail, by its number
--   Fault         the refusal that a byte string gets: its number, and the place or the good that it carries
use Rattle.std.specs.Prelude.{◌≡◌, ℕ, ◌+◌, ◌*◌, ◌<◌, ◌≤◌, Bool, true, false, cond, ◌&&◌, ◌⊎◌, List, [], ◌∷◌, ◌++◌, length, take, drop, sum, ◌==◌, nat_le, nat_lt, slice_index}
use Rattle.std.specs.List.{flat_map, AllByRecursion}
use Rattle.mesh.specs.Refusals.{Told}
use Rattle.mesh.specs.Range.{between, fit_goods}
use Rattle.trade.specs.Trade.{Trader, owned_in_all}
use Rattle.layout.specs.Layout.{Economy, goods_field, name_field, sum_field, trader_field, file_of, printing, NameFits, fit_sum, TraderFits, WellFormed}

-- What good fields in their due order may say: nothing yet; the goods and some of their names; or all that and the sum, and some traders.
pub data Beginning : Type 0 where
  empty : Beginning
  naming : (g : ℕ) (names : List (List ℕ)) → Beginning
  trading : (g : ℕ) (names : List (List ℕ)) (S : ℕ) (traders : List Trader) → Beginning

-- Their bytes.
abbrev pub bytes_of : Beginning → List ℕ
bytes_of empty = []
bytes_of (naming g names) = goods_field g ++ flat_map name_field names
bytes_of (trading g names S traders) = goods_field g ++ (flat_map name_field names ++ (sum_field S ++ flat_map trader_field traders))

-- They are good: in range, and no more of them than there may be.
abbrev pub Sound : Beginning → Type 0
Sound empty = Unit {0}
Sound (naming g names) = (fit_goods g ≡ true) × (length names ≤ g) × AllByRecursion NameFits names
Sound (trading g names S traders) =
    (fit_goods g ≡ true) × (length names ≡ g) × AllByRecursion NameFits names × (fit_sum S ≡ true) × (length traders ≤ 16) × AllByRecursion (TraderFits g S) traders

-- Which field is due: a trader's is known by the goods and the weight sum.
pub data Due : Type 0 where
  goods_due : Due
  name_due : Due
  sum_due : Due
  trader_due : (g S : ℕ) → Due
  nothing_due : Due

-- First the goods, then a name for each, then the sum, then up to 16 traders.
abbrev pub due : Beginning → Due
due empty = goods_due
due (naming g names) = cond (nat_lt (length names) g) name_due sum_due
due (trading g names S traders) = cond (nat_lt (length traders) 16) (trader_due g S) nothing_due

-- A file may end after a trader.
abbrev pub ended : Beginning → List ℕ → Bool
ended empty rest = false
ended (naming g names) rest = false
ended (trading g names S traders) rest = nat_lt 0 (length traders) && length rest == 0

-- The head of a field: its tag and the length of its body.
abbrev pub tag_of : List ℕ → ℕ
tag_of bytes = slice_index bytes 0

abbrev pub length_of : List ℕ → ℕ
length_of bytes = 256 * slice_index bytes 1 + slice_index bytes 2

-- The body that follows the head.
abbrev pub body_of : List ℕ → List ℕ
body_of bytes = take (length_of bytes) (drop 3 bytes)

-- Two bytes after another as numbers.
abbrev pub values : List ℕ → List ℕ
values [] = []
values (high ∷ []) = []
values (high ∷ (low ∷ bytes)) = (256 * high + low) ∷ values bytes

abbrev pub tag_due : Due → ℕ → Bool
tag_due goods_due tag = tag == 1
tag_due name_due tag = tag == 2
tag_due sum_due tag = tag == 3
tag_due (trader_due g S) tag = tag == 4
tag_due nothing_due tag = false

-- The lengths that a body may have.
abbrev pub length_fits : Due → ℕ → Bool
length_fits goods_due n = n == 1
length_fits name_due n = between 1 32 n
length_fits sum_due n = n == 2
length_fits (trader_due g S) n = n == 4 * g
length_fits nothing_due n = false

-- Every byte is a printing character.
abbrev pub all_print : List ℕ → Bool
all_print [] = true
all_print (b ∷ bs) = printing b && all_print bs

-- The value is in range. A trader's numbers have no range of their own.
abbrev pub value_fits : Due → List ℕ → Bool
value_fits goods_due body = fit_goods (slice_index body 0)
value_fits name_due body = all_print body
value_fits sum_due body = fit_sum (256 * slice_index body 0 + slice_index body 1)
value_fits (trader_due g S) body = true
value_fits nothing_due body = true

-- A trader's weights, which come after its g endowments, add up to S.
abbrev pub weights_fit : Due → List ℕ → Bool
weights_fit goods_due body = true
weights_fit name_due body = true
weights_fit sum_due body = true
weights_fit (trader_due g S) body = sum (drop g (values body)) == S
weights_fit nothing_due body = true

-- One check, and those after it: its number where it fails.
abbrev pub check : Bool → ℕ → ℕ → ℕ
check passes number others = cond passes others number

-- The number of the first check that the field at the head of the bytes fails; 0 where it passes all.
abbrev pub flaw : Due → List ℕ → ℕ
flaw d bytes =
    check (nat_le 3 (length bytes)) 21
    (check (tag_due d (tag_of bytes)) 22
    (check (length_fits d (length_of bytes)) 23
    (check (nat_le (3 + length_of bytes) (length bytes)) 21
    (check (value_fits d (body_of bytes)) 24
    (check (weights_fit d (body_of bytes)) 25 0)))))

-- The file begins with good fields and does not end there, and what follows fails a check. The refusal carries the place where it stands.
pub record FieldFault (file : List ℕ) (t : Told) : Type 0 where
  pub said : Beginning
  pub rest : List ℕ
  pub sound : Sound said
  pub bytes : file ≡ bytes_of said ++ rest
  pub goes_on : ended said rest ≡ false
  pub wrong : 0 < flaw (due said) rest
  pub tells : t ≡ (flaw (due said) rest, length (bytes_of said) ∷ [])

-- Every field is good, and nobody owns some good. The refusal carries the smallest such good.
pub record OwnerFault (file : List ℕ) (t : Told) : Type 0 where
  pub economy : Economy
  pub good : ℕ
  pub formed : WellFormed economy
  pub bytes : file ≡ file_of economy
  pub low : 1 ≤ good
  pub high : good ≤ economy.goods
  pub unowned : owned_in_all economy.traders good ≡ 0
  pub smallest : (i : ℕ) → 1 ≤ i → i < good → 0 < owned_in_all economy.traders i
  pub tells : t ≡ (26, good ∷ [])

abbrev pub Fault : List ℕ → Told → Type 0
Fault file t = FieldFault file t ⊎ OwnerFault file t
