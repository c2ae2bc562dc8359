-- K1 and J1 are triangulations.
use Rattle.todd_laws.proofs.Triangulations.{k1-lawful, j1-lawful}
use Rattle.todd_laws.proofs.lawful.Goals as goal

pub returns : goal.returns
returns c = record { k1 = k1-lawful; j1 = j1-lawful }
