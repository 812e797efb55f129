use Rattle.std.proofs.lemmas.Result.{err_from_is_err_and}
use Rattle.table.proofs.Told.{segment_refused_told, segment_told}
use Rattle.planes.proofs.places.SegmentTryFromU32.try_from.Goals as goal

pub returns-in_err-check_segment : goal.returns-in_err-check_segment
returns-in_err-check_segment c =
    let p = err_from_is_err_and c.from_residual.result c.from_residual.ensures.1 in
    rw (p.1, p.2) (segment_refused_told _ _ _ _ c.in_err-check_segment.ensures.answer)

pub invariant_of-result : goal.invariant_of-result
invariant_of-result c = record { within = (segment_told _ _ _ _ c.in_ok-check_segment.ensures.answer).0 }
