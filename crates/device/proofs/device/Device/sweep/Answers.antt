use Rattle.std.proofs.Common.{◌≡◌, get_or, refl, ◌∙◌}
use Rattle.device.proofs.Remarked.{drop-remarked, rows_remarked, tidy_remarked}
use Rattle.device.specs.Layout.{marks_of}
use Rattle.device.specs.Proved.Marks.{quiet_marks_of}
use Rattle.device.specs.Proved.Memory.{framed}
use Rattle.device.specs.Sweeps.{row_after}
use Rattle.std.proofs.lemmas.List.{get_or-take, length-take-le}
use Rattle.device.proofs.device.Device.sweep.Goals as goal

pub invariant_of-self-clause-tidy : goal.invariant_of-self-clause-tidy
invariant_of-self-clause-tidy g c =
    let d = c.args.self.now in
    let ms = d.marks.now in
    let size = length-take-le d.depth ms d.marked in
    tidy_remarked ms c.pass_over.new.marks d.depth (c.pass_over.auto.marks ∙ size)
    (λ r lt. let t = c.pass_over.ensures.memory r (rw size lt) in
    (t.0, t.2, c.requires.quiet (marks_of (get_or ms r 0)) t.0 (rw (get_or-take d.depth ms r 0 lt) at t.1) (quiet_marks_of (get_or ms r 0) (d.tidy r lt))))

pub returns-clause-rows : goal.returns-clause-rows
returns-clause-rows g c = λ after does.
    let d = c.args.self.now in
    let ms = d.marks.now in
    let size = length-take-le d.depth ms d.marked in
    rows_remarked ms c.pass_over.new.marks d.depth (c.pass_over.auto.marks ∙ size) d.words.now d.width (row_after after)
    (λ r lt. let t = c.pass_over.ensures.memory r (rw size lt) in
    let e : t.0 ≡ after (marks_of (get_or ms r 0)) = does _ _ (rw (get_or-take d.depth ms r 0 lt) at t.1) in
    (t.0, t.2, rw e))

pub returns-clause-frame : goal.returns-clause-frame
returns-clause-frame g c =
    let d = c.args.self.now in
    framed _ _ refl refl refl refl refl (drop-remarked d.marks.now c.pass_over.new.marks d.depth (c.pass_over.auto.marks ∙ length-take-le d.depth d.marks.now d.marked))
