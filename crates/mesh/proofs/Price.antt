-- The price of a good, read from a table.
use Rattle.std.proofs.Common.{◌≡◌, ℕ, zero, suc, ◌-◌, ◌<◌, ◌≤◌, List, get_or, take, sym, ap, ◌∙◌, arith}
use Rattle.std.proofs.lemmas.List.{get_or-take}
use Rattle.mesh.specs.Prices.{price}

pub price-at : (xs : List ℕ) (j : ℕ) → 0 < j → price xs j ≡ get_or xs (j - 1) 0
price-at xs zero h = absurd (omega arith)
price-at xs (suc j) h = ap (λ i. get_or xs i 0) (omega arith)

-- A good among the first n of a table.
pub price-in-table : (n : ℕ) (xs : List ℕ) (j : ℕ) → 0 < j → j ≤ n → get_or xs (j - 1) 0 ≡ price (take n xs) j
price-in-table n xs j low high = sym (get_or-take n xs (j - 1) 0 (omega arith)) ∙ sym (price-at (take n xs) j low)
