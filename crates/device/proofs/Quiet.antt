-- No call leaves an empty row with a hit. Assumes nothing.
use Rattle.std.proofs.Common.{◌≡◌, ℕ, false, ◌&&◌, arith}
use Rattle.std.proofs.lemmas.Grind.{common_steps}
use Rattle.table.specs.Row.{marks_given, marks_searched, marks_written}
use Rattle.table.specs.declared.parts.Marking.{Marking}
use Rattle.table.specs.declared.parts.Marks.{Marks}
use Rattle.table.specs.declared.parts.Search.{Search}

pub quiet_written : (s : ℕ) (m : Marks) → (m.empty && m.hit) ≡ false → ((marks_written s m).empty && (marks_written s m).hit) ≡ false
quiet_written s m q = grind (arith, common_steps)

pub quiet_given : (g : Marking) (m : Marks) → ((marks_given g m).empty && (marks_given g m).hit) ≡ false
quiet_given g m = grind (arith, common_steps)

pub quiet_searched : (q : Search) (word : ℕ) (m : Marks) → ((marks_searched q word m).empty && (marks_searched q word m).hit) ≡ false
quiet_searched q word m = grind (arith, common_steps)
