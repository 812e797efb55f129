-- The lemmas by which a join's calls are proved: of calls that are refused, of calls that name one
-- row, and of calls that are for every row. Assumes nothing.
use Rattle.table.proofs.Checks.{cell-granted, cell_segment, row_granted, row_refused, segment_refused}
use Rattle.table.proofs.Refusals.{cell-row_alike, cell_alike, row_alike}
use Rattle.table.proofs.Told.{cell-told, row_told, segment_told}
use Rattle.join.proofs.Alls.{changed_all, search_granted, search_refused, searched_all}
use Rattle.join.proofs.Cuts.{even_marked, even_purged, even_searched, even_unvisited, even_vacated, even_written}
use Rattle.join.proofs.Parts.{length_join}
use Rattle.join.proofs.Seats.{cell_lower, cell_upper, changed_lower, changed_upper, marks_lower, marks_upper, read_lower, read_upper, row_lower, row_upper, set_marks_lower, set_marks_upper, write_lower, write_upper}

pub ruleset refusals = (row_refused, segment_refused, cell_segment, row_alike, cell_alike, cell-row_alike, search_refused)

pub ruleset one_row = (length_join, row_granted, cell-granted, row_told, cell-told, cell_lower, cell_upper, row_lower, row_upper, read_lower, read_upper, marks_lower, marks_upper, write_lower, write_upper, set_marks_lower, set_marks_upper, changed_lower, changed_upper, even_marked, even_written)

pub ruleset every_row = (segment_told, changed_all, search_granted, searched_all, even_searched, even_purged, even_unvisited, even_vacated)

pub ruleset of_join = (refusals, one_row, every_row)
