-- How far a file has been read: numbers that say what the bytes so far say. Only inner functions of the reader cite it.
--   beginning_of     what the numbers say, as good fields in their due order
--   Held            the first `at` bytes of the file are good fields, which say what the numbers say
use Rattle.std.specs.Prelude.{◌≡◌, ℕ, ◌≤◌, cond, List, length, take, ◌==◌}
use Rattle.layout.specs.Faults.{Beginning, empty, naming, trading, bytes_of, Sound}
use Rattle.market.specs.Rows.{traders_in, names_in}
use Rattle.market.specs.Reading.{Placed}
use Rattle.market.specs.declared.rows.Numbers.{Numbers}

abbrev pub beginning_of : List ℕ → Numbers → Beginning
beginning_of file n =
    cond (n.goods == 0) empty
    (cond (n.sum == 0) (naming n.goods (names_in file n.named n.names))
    (trading n.goods (names_in file n.named n.names) n.sum (traders_in n.goods (take n.filled n.traders))))

pub record Held (file : List ℕ) (at : ℕ) (n : Numbers) : Type 0 where
  pub within : at ≤ length file
  pub bytes : take at file ≡ bytes_of (beginning_of file n)
  pub sound : Sound (beginning_of file n)
  -- the tables have their full length, and are not overfull
  pub names_room : length n.names ≡ 8
  pub traders_room : length n.traders ≡ 16
  pub few_names : n.named ≤ 8
  pub few_traders : n.filled ≤ 16
  -- nothing is said before its turn
  pub no_goods : n.goods ≡ 0 → (n.named ≡ 0) × (n.sum ≡ 0)
  pub no_sum : n.sum ≡ 0 → n.filled ≡ 0
  -- each name is marked at its place
  pub placed : Placed file n
