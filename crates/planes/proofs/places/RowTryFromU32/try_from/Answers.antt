use Rattle.std.proofs.Common.{replicate}
use Rattle.std.proofs.lemmas.List.{length-replicate}
use Rattle.std.proofs.lemmas.Result.{err_from_is_err_and}
use Rattle.table.proofs.Told.{row_refused_told, row_told}
use Rattle.table.specs.Row.{blank}
use Rattle.planes.proofs.places.RowTryFromU32.try_from.Goals as goal

pub returns-in_err-check_row : goal.returns-in_err-check_row
returns-in_err-check_row c =
    let p = err_from_is_err_and c.from_residual.result c.from_residual.ensures.1 in
    let size = length-replicate 64 blank in
    let told = row_refused_told _ _ _ _ (c.in_err-check_row.ensures.answer (replicate 64 blank) size) in
    rw (p.1, p.2) (rw size at told.0, told.1)

pub invariant_of-result : goal.invariant_of-result
invariant_of-result c =
    let size = length-replicate 64 blank in
    let told = row_told _ _ _ _ (c.in_ok-check_row.ensures.answer (replicate 64 blank) size) in
    record { within = rw size at told.0 }
