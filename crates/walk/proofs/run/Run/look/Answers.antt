use Rattle.std.proofs.Common.{rules}
use Rattle.walk.proofs.LookShown.{look-told}
use Rattle.walk.proofs.run.Run.look.Goals as goal

pub returns-clause-goes : goal.returns-clause-goes
returns-clause-goes b c = λ o calls came.
    look-told _ _ o (b.met.T.Triangulation.lawful c.args.self.now.tri.now) calls came.path came.leads c.args.self.now.state came.shows _ (search rules)
