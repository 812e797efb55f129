use Rattle.std.proofs.Common.{◌≡◌, ℕ, ◌<◌, not}
use lib.Bits.{bit_or}
use Rattle.planes.specs.Bits.{bit_of}
use Rattle.planes.specs.Rows.{word_of}
use Rattle.planes.proofs.Agreement.{same_low}
use Rattle.planes.proofs.memory.Memory.agreeing.Given as goal

abbrev pub invariant-loop-b : goal.invariant-loop-b
invariant-loop-b l = (k : ℕ) → k < 64
    → bit_of l.missed k ≡ not (same_low l.b (bit_or l.key l.mask) (bit_or (word_of l.self.planes l.fn.segment.number k) l.mask))
