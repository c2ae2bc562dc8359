use Rattle.std.proofs.Common.{◌≡◌}
use Rattle.cells.specs.Cells.{shape_of}
use Rattle.state.specs.Views.{view_of, goods_of}
use Rattle.walk.proofs.Placing.{placed_to}
use Rattle.walk.proofs.starting.stand.Given as goal

-- In a cell, the corners before i are placed.
abbrev pub invariant-loop-i : goal.invariant-loop-i
invariant-loop-i g l =
    goods_of l.initial.state ≡ l.grid.goods
    → (g.T.Triangulation.meaning l.tri l.grid.goods l.grid.mesh).is_cell (shape_of l.grid.goods l.cell)
    → view_of l.state
    ≡ placed_to (g.T.Triangulation.meaning l.tri l.grid.goods l.grid.mesh) (view_of l.initial.state) (shape_of l.grid.goods l.cell) l.i
