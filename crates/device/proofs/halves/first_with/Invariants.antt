use Rattle.std.proofs.Common.{◌≡◌, ℕ, ◌+◌, ◌<◌, ◌≤◌, true, length, get_or}
use Rattle.device.specs.Halves.{Any, NoneOf, has_bit}
use Rattle.device.proofs.halves.first_with.Given as goal

abbrev pub invariant-loop-part : goal.invariant-loop-part
invariant-loop-part l = record {
  within : l.first + length l.part ≤ length l.marks;
  same : (k : ℕ) → k < length l.part → get_or l.part k 0 ≡ get_or l.marks (l.first + k) 0;
  before : NoneOf (λ k. has_bit l.mark (get_or l.marks k 0)) 0 l.first;
  some : Any (λ k. has_bit l.mark (get_or l.part k 0)) 0 (length l.part) true;
}

abbrev pub decreases-loop-part : goal.decreases-loop-part
decreases-loop-part l = length l.part
