-- The record of a cell, and what a triangulation answers.
--   shape_of        the cell that a record says
--   wall_code       the number of a wall
--   start_for       the start cell of a price point
--   CornerAnswer   the corner of a cell at a place
--   AcrossAnswer   crossing a cell at a place
use Rattle.std.specs.Prelude.{◌≡◌, ℕ, ◌<◌, ◌≤◌, List, [], take, Ok, Err, Result}
use Rattle.mesh.specs.declared.refusal.Refusal.{Refusal}
use Rattle.mesh.specs.Refusals.{Told, answered, insist}
use Rattle.cells.specs.Corners.{Wall, outer_wall, real_wall, good_wall}
use Rattle.cells.specs.Triangulation.{Shape, Across, wall, moved, Mesh}
use Rattle.cells.specs.declared.cell.Cell.{Cell}

-- The first g entries of each table.
abbrev pub shape_of : ℕ → Cell → Shape
shape_of g c = record { base = take g c.base; order = take g c.order; ups = take g c.ups }

-- The number of a wall: 9 for the outer wall, 10 for the real wall, and j for that of good j. 0 is no wall.
abbrev pub wall_code : Wall → ℕ
wall_code outer_wall = 9
wall_code real_wall = 10
wall_code (good_wall j) = j

-- What was crossed, as a pair of numbers: the place of the new corner and 0, or at a wall the place itself and the wall's number.
abbrev pub crossing : ℕ → Across Shape → ℕ × ℕ
crossing i (wall w) = (i, wall_code w)
crossing i (moved b j) = (j, 0)

-- The record d after crossing from the record c: the neighbour, or at a wall c as it was.
abbrev pub Reached : ℕ → Cell → Across Shape → Cell → Type 0
Reached g c (wall w) d = d ≡ c
Reached g c (moved b j) d = shape_of g d ≡ b

-- The start cell of a price point: 4 for one that is not admitted.
abbrev pub start_for : {g D : ℕ} → Mesh Shape g D → List ℕ → Result Shape Told
start_for M x = insist (M.admitted x) 4 (Ok (M.start x))

module _ {g D : ℕ} (M : Mesh Shape g D) where
  -- The answer to: which corner has c at place i? 12 where there is no such place; else the corner, for every cell of the triangulation.
  pub record CornerAnswer (c : Cell) (i : ℕ) (r : Result (List ℕ) Refusal) : Type 0 where
    pub refused : g < i → answered (take g) r ≡ Err (12, [])
    pub value : i ≤ g → M.is_cell (shape_of g c) → answered (take g) r ≡ Ok (M.corner (shape_of g c) i)

  -- The answer to: what lies across place i of c, and go there, to d? 12 where there is no such place, and c stays as it was; else, for every cell
  -- of the triangulation, a wall, where c stays as it was, or the neighbour.
  pub record AcrossAnswer (c : Cell) (i : ℕ) (r : Result (ℕ × ℕ) Refusal) (d : Cell) : Type 0 where
    pub refused : g < i → (answered (λ x. x) r ≡ Err (12, [])) × (d ≡ c)
    pub value : i ≤ g → M.is_cell (shape_of g c)
        → (answered (λ x. x) r ≡ Ok (crossing i (M.across (shape_of g c) i))) × Reached g c (M.across (shape_of g c) i) d
