use Rattle.std.proofs.Common.{sym, ◌∙◌}
use Rattle.walk.proofs.InPlay.{play-first, turn, play-ends}
use Rattle.walk.proofs.play.play.Goals as goal

pub loop-call-init : goal.loop-call-init
loop-call-init b c =
    let made = c.in_ok-run.ensures in
    (play-first _ _ _ _ made.came, made.borrows.0, made.borrows.1)

pub loop-call-preserved : goal.loop-call-preserved
loop-call-preserved b c = (
  turn b.T.Triangulation.meaning b.L.Labelling.rule _ _ _ _ _ (sym c.loop-call.invariant.1) (sym c.loop-call.invariant.2) c.args.calls.now c.loop-call.call-index _ c.loop-call-test.true
      c.loop-call.last c.make-last.result c.loop-call.run.state c.make-last.new.run.state c.loop-call.invariant.0 c.make-last.ensures.goes,
  c.make-last.ensures.borrows.0 ∙ c.loop-call.invariant.1,
  c.make-last.ensures.borrows.1 ∙ c.loop-call.invariant.2,
)

pub returns : goal.returns
returns b c =
    play-ends _ _ _ (b.met.T.Triangulation.lawful c.args.tri.now) c.args.calls.now c.loop-call.call-index c.loop-call-test.false c.loop-call.last c.loop-call.run.state
    c.look-look.result c.loop-call.invariant.0 c.look-look.ensures.sight
