-- What the steps of K1 and J1 on records answer.
use Rattle.std.specs.Prelude.{◌≡◌, ℕ, suc, ◌<◌, List, length, slice_index}
use Rattle.cells.specs.Triangulation.{Shape, Across, Mesh}
use Rattle.cells.specs.Cells.{shape_of, Reached}
use Rattle.cells.specs.Ways.{Says}
use Rattle.cells.specs.declared.cell.Cell.{Cell}
use Rattle.cells.specs.declared.wall.Way.{Way}

-- Crossing the record c, where x lies across, goes the way w and leaves the record d.
pub record Crosses (g : ℕ) (c : Cell) (x : Across Shape) (w : Way) (d : Cell) : Type 0 where
  pub says : Says w x
  pub left : Reached g c x d

-- The same at place i of a cell of the mesh M.
abbrev pub CrossesIn : {g D : ℕ} → Mesh Shape g D → Cell → ℕ → Way → Cell → Type 0
CrossesIn {g} {D} M c i w d = M.is_cell (shape_of g c) → Crosses g c (M.across (shape_of g c) i) w d

-- Each entry of r is one more than that of v, as far as it fits.
pub record Raised (v r : List ℕ) : Type 0 where
  pub size : length r ≡ 8
  pub more : (k : ℕ) → k < 8 → slice_index v k < 4294967295 → slice_index r k ≡ suc (slice_index v k)
