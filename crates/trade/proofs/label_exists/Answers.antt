use Rattle.trade.proofs.Labelling.{label-exists, label-determined}
use Rattle.trade.proofs.label_exists.Goals as goal

pub returns : goal.returns
returns c = record { exists = label-exists; determined = label-determined }
