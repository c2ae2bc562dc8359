use Rattle.state.proofs.Tables.{set-in}
use Rattle.state.proofs.table.Table.put.Goals as goal

pub returns : goal.returns
returns c = λ g low. set-in g c.args.self.now.records c.args.i c.args.corner low
