use Rattle.std.proofs.Common.{◌≡◌, ℕ, ◌+◌, ◌<◌, ◌≤◌, length, get_or, drop, sum}
use Rattle.mesh.specs.Points.{goods_of, prices_of}
use Rattle.mesh.proofs.point.PricePoint.levels.Given as goal

-- From the good before j on the table has the levels, before that the prices.
abbrev pub invariant-loop-j : goal.invariant-loop-j
invariant-loop-j l =
    (length l.levels ≡ 8)
    × ((k : ℕ) → k + 1 < l.j → get_or l.levels k 0 ≡ get_or l.self.prices k 0)
    × ((k : ℕ) → l.j ≤ k + 1 → k < goods_of l.self → get_or l.levels k 0 ≡ sum (drop k (prices_of l.self)))
