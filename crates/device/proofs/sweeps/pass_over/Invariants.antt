use Rattle.std.proofs.Common.{◌≡◌, ℕ, ◌<◌, ◌≤◌, get_or}
use Rattle.device.specs.Layout.{byte_of, marks_of}
use Rattle.table.specs.declared.parts.Marks.{Marks}
use Rattle.device.proofs.sweeps.pass_over.Given as goal

abbrev pub invariant-loop-byte : goal.invariant-loop-byte
invariant-loop-byte g l = record {
  done : (k : ℕ) → k < l.byte-index → (m : Marks) × goal.F-post g l.change (marks_of (get_or l.initial.marks k 0)) m × (get_or l.marks k 0 ≡ byte_of m);
  left : (k : ℕ) → l.byte-index ≤ k → get_or l.marks k 0 ≡ get_or l.initial.marks k 0;
}
