use Rattle.state.proofs.Tables.{blank-is}
use Rattle.state.proofs.table.Table.blank.Goals as goal

pub returns : goal.returns
returns c = blank-is
