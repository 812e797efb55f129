use Rattle.ports.proofs.Endings.{stays_ahead}
use Rattle.ports.proofs.input.sequences_end.Goals as goal

pub returns : goal.returns
returns c = record { law = stays_ahead }
