use Rattle.std.proofs.Common.{◌≡◌, suc, ◌+◌, ◌≤◌, Ok, sym, ap, arith, rules}
use Rattle.mesh.specs.Points.{goods_of, mesh_of, prices_of}
use Rattle.cells.specs.Cells.{shape_of}
use Rattle.state.specs.Views.{view_of, bare}
use Rattle.walk.proofs.Checks.{insist-ok}
use Rattle.walk.proofs.Placing.{placed-more, stands}
use Rattle.walk.proofs.starting.stand.Goals as goal

pub returns-in_ok-levels : goal.returns-in_ok-levels
returns-in_ok-levels g c small =
    let point = c.args.point in
    let M = g.T.Triangulation.meaning c.args.tri.now (goods_of point) (mesh_of point) in
    let start = insist-ok (M.admitted (prices_of point)) 4 (Ok (M.start (prices_of point))) (shape_of (goods_of point) c.in_ok-cell.cell) (sym c.in_ok-cell.ensures) in
    let begun : view_of c.begin-state.result ≡ bare c.args.number point (shape_of (goods_of point) c.in_ok-cell.cell) (suc c.args.before) = search rules in
    rw start.0
    (ap Ok (stands (g.T.Triangulation.meaning c.args.tri.now) (λ n D two one. g.met.T.Triangulation.lawful c.args.tri.now n D two one) point c.in_ok-cell.cell
    start.0 (cc start.1) c.grid-grid.result c.grid-grid.ensures _ _ (c.loop-i.i + 1) _ _ begun (omega arith)
    (λ goods cell. placed-more (g.T.Triangulation.meaning c.args.tri.now c.grid-grid.result.goods c.grid-grid.result.mesh) (view_of c.begin-state.result)
    (shape_of c.grid-grid.result.goods c.in_ok-cell.cell) c.loop-i.i (view_of c.loop-i.state) (view_of c.place.new.self) c.in_ok-levels.levels goods
    (c.loop-i.invariant goods cell) (omega arith) c.place.ensures.placed (c.in_ok-levels.ensures.value (omega arith) cell))))

pub loop-i-preserved : goal.loop-i-preserved
loop-i-preserved g c goods cell =
    let low : c.loop-i.i ≤ c.grid-grid.result.goods = omega arith in
    placed-more (g.T.Triangulation.meaning c.args.tri.now c.grid-grid.result.goods c.grid-grid.result.mesh) (view_of c.begin-state.result)
    (shape_of c.grid-grid.result.goods c.in_ok-cell.cell) c.loop-i.i (view_of c.loop-i.state) (view_of c.place.new.self) c.in_ok-levels.levels goods
    (c.loop-i.invariant goods cell) low c.place.ensures.placed (c.in_ok-levels.ensures.value low cell)
