use Rattle.std.proofs.Common.{arith}
use Rattle.planes.proofs.PutLaws.{laid_put}
use Rattle.planes.proofs.tables.PlanesTable.write.Goals as goal

pub invariant_of-self-clause-laid : goal.invariant_of-self-clause-laid
invariant_of-self-clause-laid c = laid_put c.put.ensures (omega arith) c.args.self.now.laid
