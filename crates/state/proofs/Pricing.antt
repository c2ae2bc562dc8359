-- Prices of levels, and tables of prices.
--   price-good     the price of a good is a level less the next
--   scaled-are     a table of prices, each so many times as large
use Rattle.std.proofs.Common.{◌≡◌, ℕ, ◌+◌, ◌-◌, ◌*◌, ◌<◌, ◌≤◌, List, map, length, get_or, take, sym, ap, ◌∙◌, arith}
use Rattle.std.proofs.lemmas.List.{get_or-map, get_or-take, length-map, length-take-le}
use Rattle.tables.proofs.Made.{front}
use Rattle.mesh.specs.Prices.{price, to_prices}
use Rattle.mesh.proofs.Levels.{price-is}
use Rattle.mesh.proofs.Price.{price-at}

pub price-good : (u : List ℕ) (l : ℕ) → 1 ≤ l → price (to_prices u) l ≡ get_or u (l - 1) 0 - get_or u (l - 1 + 1) 0
price-good u l low = price-at (to_prices u) l low ∙ price-is u (l - 1)

pub scaled-are : (c g : ℕ) (x r : List ℕ) → g ≤ length x → g ≤ length r → ((k : ℕ) → k < g → get_or r k 0 ≡ c * get_or x k 0)
    → take g r ≡ map (λ n. c * n) (take g x)
scaled-are c g x r in-x in-r places =
    let size-x : length (take g x) ≡ g = length-take-le g x in-x in
    front (map (λ n. c * n) (take g x)) r g 0 (length-map (take g x) (λ n. c * n) ∙ size-x) in-r
    (λ k h. places k h ∙ sym (get_or-map (λ n. c * n) (take g x) k 0 0 (omega arith) ∙ ap (λ n. c * n) (get_or-take g x k 0 h)))
