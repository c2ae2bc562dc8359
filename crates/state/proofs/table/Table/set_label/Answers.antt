use Rattle.state.proofs.Tables.{label-set}
use Rattle.state.proofs.table.Table.set_label.Goals as goal

pub returns : goal.returns
returns c = λ g low. label-set g c.args.self.now.records c.args.i c.args.label low
