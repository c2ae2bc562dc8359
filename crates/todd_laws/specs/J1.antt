-- Todd's J1. A cell is a base with odd levels, an order of the levels, and a direction for each level. The corner at place 0 is the base; the
-- corner at place k is the one before it with the k-th level of the order moved by one in its direction.
use Rattle.std.specs.Prelude.{◌≡◌, ℕ, zero, suc, ◌-◌, ◌%◌, ◌≤◌, Bool, true, false, cond, not, ◌&&◌, List, [], ◌∷◌, map, length, take, replicate, ◌==◌, slice_index_or, slice_set}
use Rattle.std.specs.List.{AllByRecursion}
use Rattle.mesh.specs.Prices.{to_levels}
use Rattle.cells.specs.Corners.{Corner}
use Rattle.cells.specs.Triangulation.{Shape, Across, moved, Mesh}
use Rattle.todd_laws.specs.Steps.{level, shift, nth, IsOrder, swap_at, up_from, down_from, stop, or_else, is_point}

-- The direction of level j: up or down.
abbrev pub upward : Shape → ℕ → Bool
upward s j = slice_index_or s.ups (j - 1) true

abbrev pub j1_corner : Shape → ℕ → List ℕ
j1_corner s zero = s.base
j1_corner s (suc k) = shift (upward s (nth s.order (suc k))) (j1_corner s k) (nth s.order (suc k))

pub record J1Cell (g D : ℕ) (s : Shape) : Type 0 where
  pub size : length s.base ≡ g
  pub odd : AllByRecursion (λ u. u % 2 ≡ 1) s.base
  pub order : IsOrder g s.order
  pub directions : length s.ups ≡ g
  pub corners : (k : ℕ) → k ≤ g → Corner g D (j1_corner s k)

-- The direction of level j turns round.
abbrev pub turned : Shape → ℕ → List Bool
turned s j = slice_set s.ups (j - 1) (not (upward s j))

-- Across the first place: the first level of the order moves by two in its direction, and its direction turns round.
abbrev pub j1_first : Shape → Shape
j1_first s =
    let j = nth s.order 1 in
    record { base = shift (upward s j) (shift (upward s j) s.base j) j; order = s.order; ups = turned s j }

-- Across the last place: the direction of the last level of the order turns round.
abbrev pub j1_last : ℕ → Shape → Shape
j1_last g s = record { base = s.base; order = s.order; ups = turned s (nth s.order g) }

-- Across a place between: the levels on both sides of it change places in the order.
abbrev pub j1_middle : Shape → ℕ → Shape
j1_middle s i = record { base = s.base; order = swap_at s.order i; ups = s.ups }

-- The new corner, at the same place, comes from one that stays, by moving one level by one; where a wall stops that, there is no neighbour.
abbrev pub j1_across : ℕ → ℕ → Shape → ℕ → Across Shape
j1_across g D s i =
    cond (i == 0) (or_else (stop D (upward s (nth s.order 1)) (j1_corner s 1) (nth s.order 1)) (moved (j1_first s) 0))
    (cond (i == g) (or_else (stop D (not (upward s (nth s.order g))) (j1_corner s (g - 1)) (nth s.order g)) (moved (j1_last g s) g))
    (or_else (stop D (upward s (nth s.order (suc i))) (j1_corner s (i - 1)) (nth s.order (suc i))) (moved (j1_middle s i) i)))

abbrev pub all_even : List ℕ → Bool
all_even [] = true
all_even (x ∷ xs) = x % 2 == 0 && all_even xs

-- The smaller of the two values that level j takes.
abbrev pub smaller : Shape → ℕ → ℕ
smaller s j = cond (upward s j) (level s.base j) (level s.base j - 1)

-- A point is admitted if all its prices but the last are even. For odd D its start cell is as in K1, with all directions up, and the point is its
-- corner at place 0. For even D the base has each level of the point plus one, the order is g down to 1, all directions are down, and the point is
-- the corner at place g.
abbrev pub j1 : (g D : ℕ) → Mesh Shape g D
j1 g D = record {
  is_cell = J1Cell g D;
  corner = j1_corner;
  across = j1_across g D;
  admitted = λ c. is_point g D c && all_even (take (g - 1) c);
  start = λ c. cond (D % 2 == 1)
      (record { base = to_levels c; order = up_from 0 g; ups = replicate g true })
      (record { base = map suc (to_levels c); order = down_from g; ups = replicate g false });
  home = λ c. cond (D % 2 == 1) 0 g;
  address = λ s. map (smaller s) s.order;
}
