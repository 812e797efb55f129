-- A row that is marked not empty, with its own access mark, has become valid. Assumes nothing.
use Rattle.std.proofs.Common.{◌≡◌, ℕ, List, false}
use Rattle.std.proofs.Math.Bool.{and-true}
use Rattle.processor.specs.Commands.{became_valid}
use Rattle.table.specs.Calls.{change, marks_at}
use Rattle.table.specs.Row.{Row, marked}

pub change_valid : (rs : List Row) (row : ℕ) → change row (marked (record { empty = false; access = (marks_at rs row).access })) rs ≡ change row became_valid rs
unfolding change
change_valid rs row = simp and-true
