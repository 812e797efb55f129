use Rattle.flags.proofs.Readings.{full_read, hits_read}
use Rattle.flags.proofs.examples.readings_stand.Goals as goal

pub returns : goal.returns
returns c = record { hits = hits_read; full = full_read }
