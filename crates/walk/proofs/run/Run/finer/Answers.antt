use Rattle.std.proofs.Common.{◌-◌, take, sym, refl, ap, ◌∙◌, ap₂}
use Rattle.std.proofs.lemmas.Result.{err_from_is_err_and}
use Rattle.mesh.specs.Points.{point_of, point_for}
use Rattle.state.specs.Views.{view_of}
use Rattle.walk.specs.Records.{finer_mesh}
use Rattle.walk.proofs.RefineShown.{refine-not-accepted, refine-no-mesh, refine-none}
use Rattle.walk.proofs.Refining.{scaled-start, no-refusal, begins-there}
use Rattle.walk.proofs.run.Run.finer.Goals as goal

pub returns-in_err-dropped : goal.returns-in_err-dropped
returns-in_err-dropped b c = λ o calls came.
    let s = c.args.self.now.state in
    let p = err_from_is_err_and c.from_residual.result c.from_residual.ensures.1 in
    rw (p.1, p.2)
    (refine-not-accepted _ _ o (b.met.T.Triangulation.lawful c.args.self.now.tri.now) calls came.path came.leads _ _ c.args.factor (view_of s) came.shows _
    (sym c.in_err-dropped.ensures) s refl)

pub returns-in_err-mesh : goal.returns-in_err-mesh
returns-in_err-mesh b c = λ o calls came.
    let s = c.args.self.now.state in
    let p = err_from_is_err_and c.from_residual-in_err-mesh.result c.from_residual-in_err-mesh.ensures.1 in
    let same = ap₂ (λ g D. finer_mesh g D c.args.factor) (sym c.goods-goods.ensures) (sym c.mesh.ensures) in
    rw (p.1, p.2)
    (refine-no-mesh _ _ o (b.met.T.Triangulation.lawful c.args.self.now.tri.now) calls came.path came.leads _ _ c.args.factor (view_of s) came.shows c.in_ok-dropped.dropped
    (sym c.in_ok-dropped.ensures) _ (same ∙ sym c.in_err-mesh.ensures) s refl)

pub returns-in_err-prices : goal.returns-in_err-prices
returns-in_err-prices b c = λ o calls came.
    let s = c.args.self.now.state in
    absurd (refine-none _ _ o (b.met.T.Triangulation.lawful c.args.self.now.tri.now) calls came.path came.leads _ _ c.args.factor (view_of s) came.shows c.in_ok-dropped.dropped
    (sym c.in_ok-dropped.ensures) c.in_err-prices.ensures)

pub returns-in_err-point : goal.returns-in_err-point
returns-in_err-point b c = λ o calls came.
    let s = c.args.self.now.state in
    let law = b.met.T.Triangulation.lawful c.args.self.now.tri.now in
    let finer = ap₂ (λ g D. finer_mesh g D c.args.factor) (sym c.goods-goods.ensures) (sym c.mesh.ensures) ∙ sym c.in_ok-mesh.ensures in
    let start = scaled-start _ _ o law calls came.path came.leads _ _ c.args.factor (view_of s) came.shows c.in_ok-dropped.dropped (sym c.in_ok-dropped.ensures)
    c.in_ok-mesh.mesh finer c.in_ok-prices.prices c.in_ok-prices.ensures c.scaled-start.result c.goods-goods.result c.goods-goods.ensures s.start.grid.goods_fit.1 c.scaled-start.ensures in
    absurd (no-refusal _ _ o law calls came.path came.leads _ _ c.args.factor (view_of s) came.shows c.in_ok-dropped.dropped (sym c.in_ok-dropped.ensures)
    c.in_ok-mesh.mesh finer c.in_ok-prices.prices c.in_ok-prices.ensures _ start _
    (c.in_err-point.ensures ∙ ap (λ g. point_for g c.in_ok-mesh.mesh (take (c.goods-goods.result - 0) c.scaled-start.result)) c.goods-goods.ensures))

pub returns : goal.returns
returns b c = λ o calls came.
    let s = c.args.self.now.state in
    let law = b.met.T.Triangulation.lawful c.args.self.now.tri.now in
    let finer = ap₂ (λ g D. finer_mesh g D c.args.factor) (sym c.goods-goods.ensures) (sym c.mesh.ensures) ∙ sym c.in_ok-mesh.ensures in
    let start = scaled-start _ _ o law calls came.path came.leads _ _ c.args.factor (view_of s) came.shows c.in_ok-dropped.dropped (sym c.in_ok-dropped.ensures)
    c.in_ok-mesh.mesh finer c.in_ok-prices.prices c.in_ok-prices.ensures c.scaled-start.result c.goods-goods.result c.goods-goods.ensures s.start.grid.goods_fit.1 c.scaled-start.ensures in
    begins-there _ _ o law calls came.path came.leads _ _ c.args.factor (view_of s) came.shows c.in_ok-dropped.dropped (sym c.in_ok-dropped.ensures)
    c.in_ok-mesh.mesh finer c.in_ok-prices.prices c.in_ok-prices.ensures _ start (point_of c.in_ok-point.point)
    (c.in_ok-point.ensures ∙ ap (λ g. point_for g c.in_ok-mesh.mesh (take (c.goods-goods.result - 0) c.scaled-start.result)) c.goods-goods.ensures) s refl c.stand.result c.stand.ensures
