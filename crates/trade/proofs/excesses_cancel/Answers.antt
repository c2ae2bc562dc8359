use Rattle.trade.proofs.Walras.{excesses-cancel}
use Rattle.trade.proofs.excesses_cancel.Goals as goal

pub returns : goal.returns
returns c = excesses-cancel
