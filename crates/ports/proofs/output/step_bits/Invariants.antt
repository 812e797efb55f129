use Rattle.std.proofs.Common.{◌≡◌}
use Rattle.ports.specs.Output.{step_bits}
use Rattle.ports.proofs.output.step_bits.Given as goal

abbrev pub invariant-loop-i : goal.invariant-loop-i
invariant-loop-i l = l.word ≡ step_bits l.hits l.i
