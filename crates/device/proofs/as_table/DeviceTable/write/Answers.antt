use Rattle.std.proofs.Common.{◌≡◌, ◌+◌, ◌*◌, ◌<◌, get_or, refl, ap, ◌∙◌, arith}
use Rattle.std.proofs.lemmas.Nat.{mul-add-lt}
use Rattle.std.proofs.lemmas.List.{length-set, drop-set-lt}
use Rattle.table.specs.Row.{marks_written, written}
use Rattle.device.proofs.Quiet.{quiet_written}
use Rattle.device.proofs.Writes.{rows_written, tidy_set}
use Rattle.device.specs.Layout.{byte_of, marks_of}
use Rattle.device.specs.Proved.Marks.{quiet_marks_of}
use Rattle.device.specs.Proved.Rows.{place_granted}
use Rattle.device.specs.Proved.Memory.{frame_same, framed}
use Rattle.device.proofs.as_table.DeviceTable.write.Goals as goal

pub returns-in_err-at-clause-frame : goal.returns-in_err-at-clause-frame
returns-in_err-at-clause-frame c = frame_same _

pub invariant_of-self-2-clause-tidy : goal.invariant_of-self-2-clause-tidy
invariant_of-self-2-clause-tidy c =
    let d = c.args.self.now in
    let at = c.in_ok-at.ensures.within in
    let old = get_or d.marks.now c.args.row 0 in
    let m = marks_written c.args.segment (marks_of old) in
    let stored : c.pack.result ≡ byte_of m = c.pack.ensures.answer ∙ ap byte_of (c.written-marks.ensures.answer ∙ ap (marks_written c.args.segment) c.unpack.ensures.answer) in
    let quiet = quiet_written c.args.segment (marks_of old) (quiet_marks_of old (d.tidy c.args.row at.1)) in
    λ r h. rw stored (tidy_set d.marks.now d.depth c.args.row m d.marked at.1 quiet d.tidy r h)

pub invariant_of-self-2-clause-marked : goal.invariant_of-self-2-clause-marked
invariant_of-self-2-clause-marked c =
    let d = c.args.self.now in
    omega (arith, d.marked, length-set d.marks.now c.args.row c.pack.result)

pub returns-clause-answer : goal.returns-clause-answer
returns-clause-answer c =
    let d = c.args.self.now in
    let at = c.in_ok-at.ensures.within in
    place_granted d.words.now d.marks.now d.width d.depth c.args.row c.args.segment tt at.1 at.2

pub returns-clause-rows : goal.returns-clause-rows
returns-clause-rows c =
    let d = c.args.self.now in
    let at = c.in_ok-at.ensures.within in
    let m = marks_written c.args.segment (marks_of (get_or d.marks.now c.args.row 0)) in
    let stored : c.pack.result ≡ byte_of m = c.pack.ensures.answer ∙ ap byte_of (c.written-marks.ensures.answer ∙ ap (marks_written c.args.segment) c.unpack.ensures.answer) in
    rw (stored, at.0) (rows_written d.marks.now d.depth c.args.row m d.marked at.1 d.words.now d.width c.args.segment c.args.word (written c.args.segment c.args.word) at.2 refl)

pub returns-clause-frame : goal.returns-clause-frame
returns-clause-frame c =
    let d = c.args.self.now in
    let at = c.in_ok-at.ensures.within in
    let low : c.args.row * d.width + c.args.segment < d.depth * d.width = omega (arith, mul-add-lt c.args.row d.width c.args.segment d.depth at.1 at.2) in
    framed _ _ refl refl refl refl
    (rw at.0 (drop-set-lt (d.depth * d.width) d.words.now (c.args.row * d.width + c.args.segment) c.args.word low))
    (drop-set-lt d.depth d.marks.now c.args.row _ at.1)
