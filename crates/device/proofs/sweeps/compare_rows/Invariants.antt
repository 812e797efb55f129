use Rattle.std.proofs.Common.{◌≡◌, ℕ, ◌+◌, ◌*◌, ◌<◌, ◌≤◌, get_or}
use Rattle.device.specs.Layout.{byte_of, marks_of}
use Rattle.table.specs.Row.{marks_searched}
use Rattle.device.proofs.sweeps.compare_rows.Given as goal

abbrev pub invariant-loop-row : goal.invariant-loop-row
invariant-loop-row l = record {
  done : (k : ℕ) → k < l.row → get_or l.marks k 0 ≡ byte_of (marks_searched l.query (get_or l.words (k * l.width + l.query.segment) 0) (marks_of (get_or l.initial.marks k 0)));
  left : (k : ℕ) → l.row ≤ k → get_or l.marks k 0 ≡ get_or l.initial.marks k 0;
}
