use Rattle.planes.proofs.Words.{Given}
use Rattle.planes.proofs.memory.Memory.put.Given as goal

abbrev pub invariant-loop-b : goal.invariant-loop-b
invariant-loop-b l = Given l.row.number l.word l.b l.initial.plane-items l.plane-items
