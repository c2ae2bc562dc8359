-- How many goods and how fine a mesh there may be, and when handed numbers are a price point.
use Rattle.std.specs.Prelude.{ℕ, Bool, cond, ◌&&◌, List, length, sum, ◌==◌, nat_le}

-- The finest mesh: 16,384 for up to 4 goods, 128 for more.
abbrev pub most : ℕ → ℕ
most g = cond (nat_le g 4) 16384 128

abbrev pub between : ℕ → ℕ → ℕ → Bool
between low high n = nat_le low n && nat_le n high

-- 2 to 8 goods.
abbrev pub fit_goods : ℕ → Bool
fit_goods g = between 2 8 g

-- A mesh of 1 to the most for g goods.
abbrev pub fit_mesh : ℕ → ℕ → Bool
fit_mesh g D = between 1 (most g) D

-- g prices that add up to D.
abbrev pub prices_add_up : ℕ → ℕ → List ℕ → Bool
prices_add_up g D x = length x == g && sum x == D
