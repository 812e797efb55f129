-- The lemmas by which a fence's calls are proved: of calls that are refused, of calls that name one
-- row, and of calls that are for every row. Assumes nothing.
use Rattle.table.proofs.Checks.{cell-granted, cell_segment, row_granted, row_refused}
use Rattle.table.proofs.Refusals.{cell-row_alike, cell_alike, row_alike}
use Rattle.table.proofs.Told.{cell-told, row_told}
use Rattle.fence.proofs.Hiding.{cell-shown, granted-change, granted-map, length-shown, marks_shown, read_shown, row_shown, shown-map}

pub ruleset refusals = (row_refused, cell_segment, row_alike, cell_alike, cell-row_alike)

pub ruleset one_row = (length-shown, row_granted, cell-granted, row_told, cell-told, read_shown, marks_shown, cell-shown, row_shown, granted-change)

pub ruleset every_row = (shown-map, granted-map)

pub ruleset of_fence = (refusals, one_row, every_row)
