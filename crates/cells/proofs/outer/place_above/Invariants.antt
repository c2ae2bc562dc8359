use Rattle.std.proofs.Common.{ℕ, ◌<◌, ◌≤◌, get_or}
use Rattle.mesh.specs.Prices.{to_prices}
use Rattle.cells.proofs.outer.place_above.Given as goal

-- No price so far is above that of the start.
abbrev pub invariant-loop-j : goal.invariant-loop-j
invariant-loop-j l = (k : ℕ) → k < l.j → get_or (to_prices l.levels) k 0 ≤ get_or l.start k 0
