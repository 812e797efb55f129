-- What a call that asks a table for its first row of some kind answers. Assumes nothing.
--   TellsFirst   the call f, at a table and a row to begin with, tells the first row that passes the test p
use Rattle.std.specs.Prelude.{◌≡◌, ℕ, Bool, Option}
use Rattle.std.specs.Borrow.{Bor}
use Rattle.std.specs.Fn.{FnOnceReturns, Once}
use Rattle.table.specs.Calls.{first}
use Rattle.table.specs.Row.{Row}
use Rattle.table.specs.declared.tables.Table.{Ghosts}

abbrev pub TellsFirst : {T F : Type 0} → Ghosts T → Once F (Bor T × (ℕ × Unit {0})) (Option ℕ) → F → (Row → Bool) → Type 0
TellsFirst {T} t g f p = (table : Bor T) (from : ℕ) (r : Option ℕ) → FnOnceReturns g f (table, (from, tt)) r → r ≡ first p (t.rows table.now) from
