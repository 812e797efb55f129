use Rattle.std.proofs.Common.{◌≡◌}
use Rattle.planes.proofs.Words.{word_to}
use Rattle.planes.proofs.memory.Memory.word.Given as goal

abbrev pub invariant-loop-b : goal.invariant-loop-b
invariant-loop-b l = l.word ≡ word_to l.self.planes l.cell.segment.number l.cell.row.number l.b
