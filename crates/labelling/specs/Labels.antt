-- Labels of price points.
use Rattle.std.specs.Prelude.{ℕ, ◌<◌, ◌≤◌, List}
use Rattle.mesh.specs.Prices.{price}

-- What a labelling means: the label of the prices of so many goods on a mesh.
abbrev pub Rule : Type 0
Rule = ℕ → ℕ → List ℕ → ℕ

-- The label l is proper at the prices x of g goods: it is a good with a price above 0.
pub record Proper (g : ℕ) (x : List ℕ) (l : ℕ) : Type 0 where
  pub low : 1 ≤ l
  pub high : l ≤ g
  pub priced : 0 < price x l
