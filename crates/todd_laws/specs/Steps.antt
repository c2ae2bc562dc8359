-- Words that K1 and J1 share: orders of the levels, one level of a corner that moves by one, and start cells with all levels going one way.
use Rattle.std.specs.Prelude.{◌≡◌, ℕ, zero, suc, ◌+◌, ◌-◌, ◌<◌, ◌≤◌, Bool, true, false, cond, ◌&&◌, List, [], ◌∷◌, map, length, replicate, Some, None, sum, Option, ◌==◌, slice_index, slice_set}
use Rattle.mesh.specs.Prices.{first, to_levels}
use Rattle.cells.specs.Corners.{Wall, outer_wall, real_wall, good_wall, Apart}
use Rattle.cells.specs.Triangulation.{Shape, Across, wall}

-- Level j of a list of levels, where levels count from 1; 0 past the last.
abbrev pub level : List ℕ → ℕ → ℕ
level v j = slice_index v (j - 1)

-- A number moved by one, up or down.
abbrev pub step : Bool → ℕ → ℕ
step true x = x + 1
step false x = x - 1

-- Level j moved by one, up or down.
abbrev pub shift : Bool → List ℕ → ℕ → List ℕ
shift true v j = slice_set v (j - 1) (level v j + 1)
shift false v j = slice_set v (j - 1) (level v j - 1)

-- The k-th of an order of the levels 1 to g, counted from 1.
abbrev pub nth : List ℕ → ℕ → ℕ
nth p k = slice_index p (k - 1)

-- Each of the levels 1 to g, once.
pub record IsOrder (g : ℕ) (p : List ℕ) : Type 0 where
  pub size : length p ≡ g
  pub low : (k : ℕ) → k < g → 1 ≤ slice_index p k
  pub high : (k : ℕ) → k < g → slice_index p k ≤ g
  pub apart : Apart g (λ k. slice_index p k)

-- The k-th and the next level change places.
abbrev pub swap_at : List ℕ → ℕ → List ℕ
swap_at p k = slice_set (slice_set p (k - 1) (nth p (k + 1))) k (nth p k)

-- The numbers after j, n of them; and the numbers from n down to 1.
abbrev pub up_from : ℕ → ℕ → List ℕ
up_from j zero = []
up_from j (suc n) = suc j ∷ up_from (suc j) n

abbrev pub down_from : ℕ → List ℕ
down_from zero = []
down_from (suc n) = suc n ∷ down_from n

-- The wall that keeps level j of the corner v from moving by one, if there is one: the levels would not fall any more, or the first would leave D and D + 1.
abbrev pub stop : ℕ → Bool → List ℕ → ℕ → Option Wall
stop D true v j =
    cond (j == 1) (cond (first v == suc D) (Some outer_wall) None)
    (cond (level v j == level v (j - 1)) (Some (good_wall (j - 1))) None)
stop D false v j =
    cond (j == 1 && first v == D) (Some real_wall) (cond (level v j == level v (j + 1)) (Some (good_wall j)) None)

-- That wall, or else the neighbour.
abbrev pub or_else : Option Wall → Across Shape → Across Shape
or_else (Some w) n = wall w
or_else None n = n

-- The start cells of a point: all levels go up from it, the first one first; or all go down to it, the last one first.
abbrev pub start_shape : ℕ → Bool → List ℕ → Shape
start_shape g true c = record { base = to_levels c; order = up_from 0 g; ups = replicate g true }
start_shape g false c = record { base = map suc (to_levels c); order = down_from g; ups = replicate g false }

-- g prices that add up to D.
abbrev pub is_point : ℕ → ℕ → List ℕ → Bool
is_point g D c = length c == g && sum c == D
