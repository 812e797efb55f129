-- What the calls of the table need of planes and rows. Assumes nothing.
use Rattle.std.proofs.lemmas.Nat.{widths}
use Rattle.planes.specs.Laws.{length_rows, row_at_rows}
use Rattle.planes.proofs.BitLaws.{or_of_64, plane_laws}
use Rattle.planes.proofs.LaidOut.{laid_remarked, laid_unvisited}
use Rattle.planes.proofs.MarkLaws.{rows_marked, rows_purged, rows_searched, rows_unvisited, rows_vacated}
use Rattle.planes.proofs.PutLaws.{laid_put, quiet_put, rows_written}
use Rattle.planes.proofs.RowLaws.{first_empty_bit, first_hit_bit}

pub ruleset call_laws = (
  plane_laws,
  widths,
  or_of_64,
  length_rows,
  row_at_rows,
  rows_marked,
  rows_purged,
  rows_searched,
  rows_unvisited,
  rows_vacated,
  rows_written,
  laid_remarked,
  laid_unvisited,
  laid_put,
  quiet_put,
  first_empty_bit,
  first_hit_bit,
)
