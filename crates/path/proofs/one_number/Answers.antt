use Rattle.path.proofs.Theorems.{different-once}
use Rattle.path.proofs.one_number.Goals as goal

pub returns : goal.returns
returns c = λ cells n m some other. different-once cells n m some other
