use Rattle.std.proofs.Common.{get_or}
use Rattle.device.specs.Halves.{Any, has_bit}
use Rattle.device.proofs.halves.any_with.Given as goal

abbrev pub invariant-loop-byte : goal.invariant-loop-byte
invariant-loop-byte l = Any (λ k. has_bit l.mark (get_or l.marks k 0)) 0 l.byte-index l.found
