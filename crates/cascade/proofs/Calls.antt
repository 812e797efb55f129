-- The lemmas by which the calls of a member and the places of a cascade are proved. Assumes nothing.
use Rattle.table.proofs.Checks.{segment_granted, segment_refused}
use Rattle.cascade.proofs.Places.{next_places}
use Rattle.cascade.proofs.Vacant.{cell-vacant, first-vacant, row_vacant}

pub ruleset of_cascade = (segment_granted, segment_refused, first-vacant, row_vacant, cell-vacant, next_places)
