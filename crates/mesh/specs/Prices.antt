-- Prices and levels of g goods, each as a list of g numbers.
--   price     the price of a good, where goods count from 1
--   to_levels  each level is the sum of the prices from there on
--   to_prices  each price is a level less the next
--   Falls     no level is above the one before it
use Rattle.std.specs.Prelude.{ℕ, zero, suc, ◌+◌, ◌-◌, ◌≤◌, Bool, true, ◌&&◌, List, [], ◌∷◌, nat_le, slice_index}

-- The price of good l; 0 where there is no such good.
abbrev pub price : List ℕ → ℕ → ℕ
price xs zero = 0
price xs (suc l) = slice_index xs l

-- The first level, 0 where there is none.
abbrev pub first : List ℕ → ℕ
first [] = 0
first (u ∷ us) = u

abbrev pub Falls : List ℕ → Type 0
Falls [] = Unit {0}
Falls (u ∷ us) = (first us ≤ u) × Falls us

abbrev pub to_prices : List ℕ → List ℕ
to_prices [] = []
to_prices (u ∷ us) = (u - first us) ∷ to_prices us

abbrev pub to_levels : List ℕ → List ℕ
to_levels [] = []
to_levels (x ∷ xs) = (x + first (to_levels xs)) ∷ to_levels xs

-- The test of Falls.
abbrev pub falls : List ℕ → Bool
falls [] = true
falls (u ∷ us) = nat_le (first us) u && falls us
