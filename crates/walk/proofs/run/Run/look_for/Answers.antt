use Rattle.std.proofs.Common.{◌≡◌, true, false, Some, None, sym, refl, ◌∙◌, arith}
use Rattle.std.proofs.lemmas.Bool.Decides.{nat_tests}
use Rattle.std.proofs.lemmas.Result.{err_from_is_err_and}
use Rattle.mesh.specs.Range.{between}
use Rattle.mesh.specs.declared.refusal.Refusal.TheVariants.{NotArrived}
use Rattle.state.specs.Views.{view_of, goods_of}
use Rattle.walk.proofs.LookShown.{look-early, look-no-good, look-kept}
use Rattle.walk.proofs.run.Run.look_for.Goals as goal

pub returns-in_err-dropped : goal.returns-in_err-dropped
returns-in_err-dropped b c = record {
  goes = λ o calls came.
      let s = c.args.self.now.state in
      let none : c.arrived.result ≡ None = grind arith in
      let p = err_from_is_err_and c.from_residual.result c.from_residual.ensures.1 in
      let early : c.in_err-dropped.field-0.0 ≡ NotArrived = grind arith in
      rw (p.1, p.2, early)
      (look-early _ _ o (b.met.T.Triangulation.lawful c.args.self.now.tri.now) calls came.path came.leads c.args.label (view_of s) came.shows (sym c.arrived.ensures ∙ none) s refl);
}

pub returns-then-not-contains : goal.returns-then-not-contains
returns-then-not-contains b c = record {
  goes = λ o calls came.
      let s = c.args.self.now.state in
      let some : c.arrived.result ≡ Some c.in_ok-dropped.dropped = grind arith in
      let out : between 1 (goods_of s) c.args.label ≡ false = grind (arith, nat_tests) in
      look-no-good _ _ o (b.met.T.Triangulation.lawful c.args.self.now.tri.now) calls came.path came.leads c.args.label (view_of s) came.shows c.in_ok-dropped.dropped
      (sym c.arrived.ensures ∙ some) out s refl;
}

pub returns : goal.returns
returns b c = record {
  goes = λ o calls came.
      let s = c.args.self.now.state in
      let some : c.arrived.result ≡ Some c.in_ok-dropped.dropped = grind arith in
      let good : between 1 (goods_of s) c.args.label ≡ true = grind (arith, nat_tests) in
      look-kept _ _ o (b.met.T.Triangulation.lawful c.args.self.now.tri.now) calls came.path came.leads c.args.label (view_of s) came.shows c.in_ok-dropped.dropped
      (sym c.arrived.ensures ∙ some) good c.kept.result c.kept.ensures s refl;
}
