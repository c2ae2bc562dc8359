use Rattle.cells.proofs.Pigeons.{pigeonhole}
use Rattle.cells.proofs.Addresses.{addresses-bounded}
use Rattle.cells.proofs.addresses_bounded.Goals as goal

pub returns : goal.returns
returns c = record { holes = pigeonhole; bound = addresses-bounded }
