-- Records that are cells of K1 or J1. A cell of K1 is one of J1's form with all directions up, so both speak of the corners of J1.
use Rattle.std.specs.Prelude.{◌≡◌, ℕ, suc, ◌-◌, ◌≤◌, List, length}
use Rattle.mesh.specs.declared.grid.Grid.{Grid}
use Rattle.cells.specs.Corners.{Corner}
use Rattle.cells.specs.Triangulation.{Shape, Across, moved, Mesh}
use Rattle.cells.specs.Cells.{shape_of}
use Rattle.cells.specs.declared.cell.Cell.{Cell}
use Rattle.todd_laws.specs.Steps.{IsOrder, nth, stop, or_else}
use Rattle.todd_laws.specs.J1.{j1_corner, j1_middle, upward}

-- A base, an order and directions whose corners are corners of the mesh.
pub record Sound (g D : ℕ) (s : Shape) : Type 0 where
  pub size : length s.base ≡ g
  pub order : IsOrder g s.order
  pub directions : length s.ups ≡ g
  pub corners : (k : ℕ) → k ≤ g → Corner g D (j1_corner s k)

-- The record says such a cell of the grid.
abbrev pub Holds : Grid → Cell → Type 0
Holds d c = Sound d.goods d.mesh (shape_of d.goods c)

-- The corner at a place of what the record says.
abbrev pub corner_at : Grid → Cell → ℕ → List ℕ
corner_at d c k = j1_corner (shape_of d.goods c) k

-- What lies across a place that is neither the first nor the last.
abbrev pub middle_across : Grid → Cell → ℕ → Across Shape
middle_across d c i =
    let s = shape_of d.goods c in
    or_else (stop d.mesh (upward s (nth s.order (suc i))) (j1_corner s (i - 1)) (nth s.order (suc i))) (moved (j1_middle s i) i)

-- Records that are cells of the triangulation M hold such cells, with these corners, and with this across the places between.
pub record InFamily (M : (g D : ℕ) → Mesh Shape g D) : Type 0 where
  pub holds : (d : Grid) (c : Cell) → (M d.goods d.mesh).is_cell (shape_of d.goods c) → Holds d c
  pub corner : (d : Grid) (c : Cell) → (M d.goods d.mesh).is_cell (shape_of d.goods c)
      → (k : ℕ) → corner_at d c k ≡ (M d.goods d.mesh).corner (shape_of d.goods c) k
  pub between : (d : Grid) (c : Cell) → (M d.goods d.mesh).is_cell (shape_of d.goods c)
      → (i : ℕ) → (i ≡ 0 → ⊥) → (i ≡ d.goods → ⊥) → (M d.goods d.mesh).across (shape_of d.goods c) i ≡ middle_across d c i
