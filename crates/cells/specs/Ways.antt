-- Walls as the code names them, and the pair of numbers that tells what lies across a place.
--   wall_of      the wall that the code means
--   place_of     the place that is told of a way
--   numbers_of   the pair of numbers that tells a way across a place
--   way_of       the way that a pair of numbers tells
--   Says         the way is that to what lies across
use Rattle.std.specs.Prelude.{◌≡◌, ℕ, if◌then◌else◌, ◌==◌}
use Rattle.cells.specs.Corners as corners
use Rattle.cells.specs.Corners.{outer_wall, real_wall, good_wall}
use Rattle.cells.specs.Triangulation.{Shape, Across, wall, moved}
use Rattle.cells.specs.Cells.{wall_code}
use Rattle.cells.specs.declared.wall.Wall.{Wall}
use Rattle.cells.specs.declared.wall.Wall.TheVariants.{Outer, Real, Good}
use Rattle.cells.specs.declared.wall.Way.{Way}
use Rattle.cells.specs.declared.wall.Way.TheVariants.{Moved, Stopped}

abbrev pub wall_of : Wall → corners.Wall
wall_of Outer = outer_wall
wall_of Real = real_wall
wall_of (Good j) = good_wall j

-- The place that is told of a way across the place i: that of the new corner, or at a wall i itself.
abbrev pub place_of : ℕ → Way → ℕ
place_of i (Moved j) = j
place_of i (Stopped w) = i

abbrev pub numbers_of : ℕ → Way → ℕ × ℕ
numbers_of i (Moved j) = (j, 0)
numbers_of i (Stopped w) = (i, wall_code (wall_of w))

-- 0 is no wall, 9 the outer wall, 10 the real wall, and any other number the wall of that good.
abbrev pub way_of : ℕ × ℕ → Way
way_of p =
    if p.1 == 0 then Moved p.0
    else (if p.1 == 9 then Stopped Outer else (if p.1 == 10 then Stopped Real else Stopped (Good p.1)))

-- Across lies a cell with its new corner at that place, or that wall.
abbrev pub Says : Way → Across Shape → Type 0
Says (Moved j) (moved b k) = j ≡ k
Says (Moved j) (wall v) = ⊥
Says (Stopped w) (moved b k) = ⊥
Says (Stopped w) (wall v) = wall_of w ≡ v
