-- The lemmas by which refused calls of a device are proved. Assumes nothing.
use Rattle.table.proofs.Refusals.{cell-row_alike, cell_alike, row_alike}

pub ruleset refusals = (row_alike, cell_alike, cell-row_alike)
