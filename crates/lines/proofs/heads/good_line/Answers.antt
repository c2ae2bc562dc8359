use Rattle.std.proofs.Common.{rules}
use Rattle.lines.proofs.Names.{plain-name}
use Rattle.lines.proofs.heads.good_line.Goals as goal

pub returns-clause-ascii : goal.returns-clause-ascii
returns-clause-ascii c = λ low. plain-name _ c.args.good c.args.name.now c.args.owned low (search rules)
