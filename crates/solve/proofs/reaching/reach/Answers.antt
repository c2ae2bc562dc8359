use Rattle.std.proofs.Common.{◌≡◌, false, ◌∙◌, arith}
use Rattle.solve.specs.Reaching.{is_move, ticket_in}
use Rattle.solve.proofs.Turns.{ends, turn, last_turn}
use Rattle.solve.proofs.reaching.reach.Goals as goal

pub loop-made-preserved : goal.loop-made-preserved
loop-made-preserved b c = (
  turn b.T.Triangulation.meaning b.L.Labelling.rule _ _ _ _ c.loop-made.invariant.1 c.loop-made.invariant.2 c.loop-made.made _ _ _ c.step.result
      c.loop-made.invariant.0 c.step.ensures.goes
      (λ g D two one. b.met.T.Triangulation.lawful c.args.run.now.tri.now g D two one) c.in_default.ensures,
  c.step.ensures.borrows.0 ∙ c.loop-made.invariant.1,
  c.step.ensures.borrows.1 ∙ c.loop-made.invariant.2,
)

pub returns-in-Break-clause-reaches : goal.returns-in-Break-clause-reaches
returns-in-Break-clause-reaches b c =
    let ended : (is_move c.step.result ≡ false) × (c.in-Break.ticket ≡ ticket_in c.step.result) = c.in-Break.ensures in
    last_turn b.T.Triangulation.meaning b.L.Labelling.rule _ _ _ _ c.loop-made.invariant.1 c.loop-made.invariant.2 c.loop-made.made _ _ _ c.step.result
    c.loop-made.invariant.0 c.step.ensures.goes c.args.most c.loop-made-test.true ended.0 c.in-Break.ticket ended.1

pub returns-clause-reaches : goal.returns-clause-reaches
returns-clause-reaches b c =
    let all : c.loop-made.made ≡ c.args.most = omega arith in
    ends _ _ c.loop-made.made c.args.most _ _ all c.loop-made.invariant.0
