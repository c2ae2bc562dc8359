-- The three laws.
use Rattle.layout.proofs.Meaning.{one-economy, one-fault, no-file-has-a-fault}
use Rattle.layout.proofs.one_meaning.Goals as goal

pub returns : goal.returns
returns c = record { economy = one-economy; fault = one-fault; apart = no-file-has-a-fault }
