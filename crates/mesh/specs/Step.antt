-- One step in the listing of the price points.
use Rattle.std.specs.Prelude.{◌≡◌, ℕ, suc, ◌+◌, ◌-◌, ◌<◌, List, slice_index, slice_set}

-- No price before place n is above 0.
abbrev pub NonePriced : List ℕ → ℕ → Type 0
NonePriced x n = (k : ℕ) → k < n → slice_index x k ≡ 0

-- Place i is the last before place n with a price above 0.
abbrev pub LastPriced : List ℕ → ℕ → ℕ → Type 0
LastPriced x n i = (i < n) × (0 < slice_index x i) × ((k : ℕ) → i < k → k < n → slice_index x k ≡ 0)

-- One less at place i, and that one with all of the price at place n at the place after i.
abbrev pub stepped : List ℕ → ℕ → ℕ → List ℕ
stepped x n i = slice_set (slice_set (slice_set x n 0) i (slice_index x i - 1)) (suc i) (slice_index x n + 1)
