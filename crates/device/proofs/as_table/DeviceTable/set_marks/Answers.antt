use Rattle.std.proofs.Common.{◌≡◌, get_or, refl, ap, ◌∙◌, arith}
use Rattle.std.proofs.lemmas.List.{length-set, drop-set-lt}
use Rattle.table.specs.Row.{marked, marks_given}
use Rattle.device.proofs.Quiet.{quiet_given}
use Rattle.device.proofs.Writes.{rows_marked, tidy_set}
use Rattle.device.specs.Layout.{byte_of, marks_of}
use Rattle.device.specs.Proved.Memory.{frame_same, framed}
use Rattle.device.specs.Proved.Rows.{line-granted}
use Rattle.device.proofs.as_table.DeviceTable.set_marks.Goals as goal

pub returns-in_err-line-clause-frame : goal.returns-in_err-line-clause-frame
returns-in_err-line-clause-frame c = frame_same _

pub invariant_of-self-clause-tidy : goal.invariant_of-self-clause-tidy
invariant_of-self-clause-tidy c =
    let d = c.args.self.now in
    let at = c.in_ok-line.ensures.within in
    let m = marks_given c.args.marking c.unpack.result in
    let stored : c.pack.result ≡ byte_of m = c.pack.ensures.answer ∙ ap byte_of c.given-marks.ensures.answer in
    λ r h. rw (stored, at.0) (tidy_set d.marks.now d.depth c.args.row m d.marked at.1 (quiet_given c.args.marking c.unpack.result) d.tidy r h)

pub invariant_of-self-clause-marked : goal.invariant_of-self-clause-marked
invariant_of-self-clause-marked c =
    let d = c.args.self.now in
    omega (arith, d.marked, length-set d.marks.now c.in_ok-line.line c.pack.result)

pub returns-clause-answer : goal.returns-clause-answer
returns-clause-answer c =
    let d = c.args.self.now in
    line-granted d.words.now d.marks.now d.width d.depth c.args.row tt c.in_ok-line.ensures.within.1

pub returns-clause-rows : goal.returns-clause-rows
returns-clause-rows c =
    let d = c.args.self.now in
    let at = c.in_ok-line.ensures.within in
    let m = marks_given c.args.marking (marks_of (get_or d.marks.now c.args.row 0)) in
    let told : c.unpack.result ≡ marks_of (get_or d.marks.now c.args.row 0) = c.unpack.ensures.answer ∙ ap (λ i. marks_of (get_or d.marks.now i 0)) at.0 in
    let stored : c.pack.result ≡ byte_of m = c.pack.ensures.answer ∙ ap byte_of (c.given-marks.ensures.answer ∙ ap (marks_given c.args.marking) told) in
    rw (stored, at.0) (rows_marked d.marks.now d.depth c.args.row m d.marked at.1 d.words.now d.width (marked c.args.marking) refl)

pub returns-clause-frame : goal.returns-clause-frame
returns-clause-frame c =
    let at = c.in_ok-line.ensures.within in
    framed _ _ refl refl refl refl refl (drop-set-lt c.args.self.now.depth c.args.self.now.marks.now _ _ (rw at.0 at.1))
