use Rattle.std.proofs.Common.{refl}
use Rattle.planes.specs.Rows.{opened}
use Rattle.planes.proofs.PutLaws.{laid_opened, rows_opened}
use Rattle.planes.proofs.planes.Planes.new.Goals as goal

pub invariant_of-result-clause-laid : goal.invariant_of-result-clause-laid
unfolding opened
invariant_of-result-clause-laid c = laid_opened

pub returns : goal.returns
unfolding opened
returns c = record { memory = refl; rows = rows_opened }
