-- The rows that a fence shows. Assumes nothing.
--   shown         all rows but the first f, or none if there are fewer
--   fenced_rows   a fence's rows, from what its kind of table, t, means as a table
use Rattle.std.specs.Prelude.{ℕ, List, drop}
use Rattle.table.specs.Row.{Row}
use Rattle.table.specs.declared.tables.Table.{Ghosts}
use Rattle.fence.specs.declared.fences.Fence.{Fence}

unfoldable pub shown : ℕ → List Row → List Row
shown f rs = drop f rs

abbrev pub fenced_rows : {T : Type 0} → Ghosts T → Fence T → List Row
fenced_rows t f = shown f.hidden (t.rows f.table)
