use Rattle.path.proofs.Theorems as theorem
use Rattle.path.proofs.claimed.Goals as goal

pub returns : goal.returns
returns b c = λ o calls p leads. theorem.claimed _ _ o (λ g D two one. b.met.T.Triangulation.lawful c.args.tri.now g D two one) calls p leads
