-- What the processor's calls on rows answer and leave, from the table's width and rows. Assumes nothing.
--   command        a table's answer as the processor's; a refusal is handed on whole
--   at_address     the answer of a command at an address: without one it refuses
--   change_at      the rows after a change at an address
--   became_valid   a row after an append
use Rattle.std.specs.Prelude.{ℕ, List, Some, None, Ok, Err, Option, Result}
use Rattle.processor.specs.declared.faults.CommandFault.{CommandFault}
use Rattle.processor.specs.declared.faults.CommandFault.TheVariants.{InTable}
use Rattle.table.specs.Calls.{change}
use Rattle.table.specs.Row.{Row, made_valid}
use Rattle.table.specs.declared.faults.TableFault.{TableFault}

abbrev pub command : {X : Type 0} → Result X TableFault → Result X CommandFault
command (Ok x) = Ok x
command (Err fault) = Err (InTable fault)

abbrev pub at_address : {X : Type 0} → CommandFault → (ℕ → Result X TableFault) → Option ℕ → Result X CommandFault
at_address missing f None = Err missing
at_address missing f (Some row) = command (f row)

abbrev pub change_at : (Row → Row) → List Row → Option ℕ → List Row
change_at f rs None = rs
change_at f rs (Some row) = change row f rs

abbrev pub became_valid : Row → Row
became_valid row = record { words = row.words; marks = made_valid row.marks }
