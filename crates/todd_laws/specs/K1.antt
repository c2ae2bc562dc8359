-- Todd's K1. A cell is a base and an order of the levels. The corner at place 0 is the base; the corner at place k is the one before it with
-- the k-th level of the order raised by one. (All directions are up.)
use Rattle.std.specs.Prelude.{◌≡◌, ℕ, zero, suc, ◌-◌, ◌≤◌, true, false, cond, List, ◌∷◌, ◌++◌, map, length, take, drop, replicate, ◌==◌}
use Rattle.mesh.specs.Prices.{to_levels}
use Rattle.cells.specs.Corners.{Corner}
use Rattle.cells.specs.Triangulation.{Shape, Across, moved, Mesh}
use Rattle.todd_laws.specs.Steps.{level, shift, nth, IsOrder, swap_at, up_from, stop, or_else, is_point}

abbrev pub k1_corner : Shape → ℕ → List ℕ
k1_corner s zero = s.base
k1_corner s (suc k) = shift true (k1_corner s k) (nth s.order (suc k))

pub record K1Cell (g D : ℕ) (s : Shape) : Type 0 where
  pub size : length s.base ≡ g
  pub order : IsOrder g s.order
  pub up : s.ups ≡ replicate g true
  pub corners : (k : ℕ) → k ≤ g → Corner g D (k1_corner s k)

-- Across the first place: the first level of the order is raised in the base, and moves to the end of the order.
abbrev pub k1_first : Shape → Shape
k1_first s = record { base = shift true s.base (nth s.order 1); order = drop 1 s.order ++ take 1 s.order; ups = s.ups }

-- Across the last place: the last level of the order is lowered in the base, and moves to the front of the order.
abbrev pub k1_last : ℕ → Shape → Shape
k1_last g s = record { base = shift false s.base (nth s.order g); order = nth s.order g ∷ take (g - 1) s.order; ups = s.ups }

-- Across a place between: the levels on both sides of it change places in the order.
abbrev pub k1_middle : Shape → ℕ → Shape
k1_middle s i = record { base = s.base; order = swap_at s.order i; ups = s.ups }

-- The new corner comes from one that stays, by moving one level by one; where a wall stops that, there is no neighbour.
abbrev pub k1_across : ℕ → ℕ → Shape → ℕ → Across Shape
k1_across g D s i =
    cond (i == 0) (or_else (stop D true (k1_corner s g) (nth s.order 1)) (moved (k1_first s) g))
    (cond (i == g) (or_else (stop D false s.base (nth s.order g)) (moved (k1_last g s) 0))
    (or_else (stop D true (k1_corner s (i - 1)) (nth s.order (suc i))) (moved (k1_middle s i) i)))

-- Every price point is admitted. Its start cell has the levels of the point for a base and the order 1 to g; the point is its corner at place 0.
abbrev pub k1 : (g D : ℕ) → Mesh Shape g D
k1 g D = record {
  is_cell = K1Cell g D;
  corner = k1_corner;
  across = k1_across g D;
  admitted = is_point g D;
  start = λ c. record { base = to_levels c; order = up_from 0 g; ups = replicate g true };
  home = λ c. 0;
  address = λ s. map (level s.base) s.order;
}
