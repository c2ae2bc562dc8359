use Rattle.path.proofs.Theorems as theorem
use Rattle.path.proofs.determined.Goals as goal

pub returns : goal.returns
returns b c = λ o calls p q leads also. theorem.determined _ _ o (λ g D two one. b.met.T.Triangulation.lawful c.args.tri.now g D two one) calls p q leads also
