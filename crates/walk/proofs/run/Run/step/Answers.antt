use Rattle.std.proofs.Common.{◌≡◌, Some, None, sym, refl, ◌∙◌, arith}
use Rattle.std.proofs.lemmas.Option.{MatchOption-at_none, MatchOption-at_some}
use Rattle.state.specs.Views.{view_of}
use Rattle.walk.proofs.Standing.{cell-there, newest-corner}
use Rattle.walk.proofs.StepShown.{step-idle}
use Rattle.walk.proofs.Stepping.{halts_by, none-by, crosses-by}
use Rattle.walk.proofs.run.Run.step.Goals as goal

pub returns-then-not-walks : goal.returns-then-not-walks
returns-then-not-walks b c =
    let s = c.args.self.now.state in
    record {
      goes = λ o calls came. step-idle _ _ o (λ g D two one. b.met.T.Triangulation.lawful _ g D two one) calls came.path came.leads (view_of s) came.shows (sym c.walks.ensures ∙ c.if-not-walks.true) s refl;
      kept = refl;
      borrows = (refl, refl);
    }

pub returns-then-not-is_proper : goal.returns-then-not-is_proper
returns-then-not-is_proper b c =
    let v = view_of c.args.self.now.state in
    record {
      goes = λ o calls came.
          let law = b.met.T.Triangulation.lawful c.args.self.now.tri.now in
          halts_by _ _ o law calls came.path came.leads v came.shows (sym c.walks.ensures ∙ c.if-not-walks.false) c.newest_label-label.result
          (c.newest_label-label.ensures (newest-corner _ _ o law calls came.path came.leads v came.shows))
          (sym c.is_proper.ensures ∙ c.if-not-is_proper.true) _ c.halt.ensures.prices _ c.halt.ensures.label
          c.halt.new.self c.halt.ensures.view;
      kept = tt;
      borrows = (refl, refl);
    }

pub returns-in_err-dropped-clause-goes : goal.returns-in_err-dropped-clause-goes
returns-in_err-dropped-clause-goes b c = λ o calls came.
    let v = view_of c.args.self.now.state in
    let law = b.met.T.Triangulation.lawful c.args.self.now.tri.now in
    let none : c.carrier-carrier.result ≡ None = grind arith in
    absurd (none-by _ _ o law calls came.path came.leads v came.shows (sym c.walks.ensures ∙ c.if-not-walks.false) c.newest_label-label.result
    (c.newest_label-label.ensures (newest-corner _ _ o law calls came.path came.leads v came.shows))
    (sym c.is_proper.ensures ∙ c.if-not-is_proper.false) (MatchOption-at_none _ _ none c.carrier-carrier.ensures))

pub returns-clause-goes : goal.returns-clause-goes
returns-clause-goes b c = λ o calls came.
    let v = view_of c.args.self.now.state in
    let law = b.met.T.Triangulation.lawful c.args.self.now.tri.now in
    let some : c.carrier-carrier.result ≡ Some c.in_ok-dropped.dropped = grind arith in
    let carrier = MatchOption-at_some _ _ _ some c.carrier-carrier.ensures in
    crosses-by _ _ o law calls came.path came.leads v came.shows (sym c.walks.ensures ∙ c.if-not-walks.false) c.newest_label-label.result
    (c.newest_label-label.ensures (newest-corner _ _ o law calls came.path came.leads v came.shows))
    (sym c.is_proper.ensures ∙ c.if-not-is_proper.false) c.in_ok-dropped.dropped carrier _ c.cross.new.state
    (c.cross.ensures.crossed carrier.0 (cell-there _ _ o law calls came.path came.leads v came.shows))
