use Rattle.std.proofs.Common.{arith}
use Rattle.std.proofs.lemmas.Bool.Decides.{nat_tests}
use Rattle.state.proofs.Pricing.{price-good}
use Rattle.state.proofs.corner.is_proper.Goals as goal

pub returns-then-contains : goal.returns-then-contains
returns-then-contains c = grind (arith, nat_tests, price-good c.args.levels.now c.args.label, c.if-contains.ensures)
