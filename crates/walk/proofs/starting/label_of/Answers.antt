use Rattle.std.proofs.Common.{◌≡◌}
use Rattle.std.proofs.lemmas.Bool.{cond-true, cond-false}
use Rattle.std.proofs.lemmas.Result.{MatchResult-at_ok, MatchResult-at_err}
use Rattle.mesh.specs.Points.{goods_of, mesh_of, prices_of}
use Rattle.mesh.specs.Prices.{to_prices}
use Rattle.cells.specs.Corners.{outer_label}
use Rattle.path.specs.Legs.{label}
use Rattle.walk.proofs.RealPoints.{real-point}
use Rattle.walk.proofs.starting.label_of.Goals as goal

pub returns-in-Ok : goal.returns-in-Ok
returns-in-Ok g c corner =
    let grid = c.args.start.now.grid in
    let point = c.in-Ok.point in
    let rule = g.L.Labelling.rule c.args.labels.now in
    let real = MatchResult-at_ok _ _ point c.in-Ok.is (real-point grid.goods grid.mesh c.args.levels.now corner grid.goods_fit grid.mesh_fits c.at_levels.result (cc)) in
    let same : rule (goods_of point) (mesh_of point) (prices_of point) ≡ rule grid.goods grid.mesh (to_prices c.args.levels.now) = let a = real.1 in let b = real.2 in let x = real.3 in cc in
    let fits : label grid.goods grid.mesh rule (prices_of c.args.start.now) c.args.levels.now ≡ rule grid.goods grid.mesh (to_prices c.args.levels.now) = cond-false _ _ _ real.0 in
    cc

pub returns-in-Err : goal.returns-in-Err
returns-in-Err g c corner =
    let grid = c.args.start.now.grid in
    let outer = MatchResult-at_err _ _ _ c.in-Err.is (real-point grid.goods grid.mesh c.args.levels.now corner grid.goods_fit grid.mesh_fits c.at_levels.result (cc)) in
    let rule = g.L.Labelling.rule c.args.labels.now in
    let fits : label grid.goods grid.mesh rule (prices_of c.args.start.now) c.args.levels.now ≡ outer_label (prices_of c.args.start.now) c.args.levels.now = cond-true _ _ _ outer in
    cc
