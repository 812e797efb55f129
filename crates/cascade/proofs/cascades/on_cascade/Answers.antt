use Rattle.std.proofs.Common.{◌≡◌, ◌*◌, length, arith, rules}
use Rattle.cascade.proofs.Memory.{countable-within, places_told}
use Rattle.cascade.specs.Cascades.{member_seat_rows, member_seat_width, places_for}
use Rattle.cascade.proofs.cascades.on_cascade.Goals as goal

pub returns : goal.returns
returns g c =
    let seats = c.args.seats.now in
    let words = c.in_ok-words.ensures in
    let marks = c.in_ok-marks.ensures in
    let n : length c.deref_mut.result.now ≡ 8192 * places_for (length seats) = search rules in
    let m : length c.deref_mut-2.result.now ≡ 8192 * places_for (length seats) = search rules in
    record {
      answer = (countable-within (length seats) _ c.is_empty.ensures c.if-is_empty.false (omega arith), places_told (g.J.Job.tells c.args.job) member_seat_width member_seat_rows seats (length seats) (8192 * places_for (length seats)) _ _ _ n m c.on_places.ensures.told);
    }
