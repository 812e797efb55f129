use Rattle.std.proofs.Common.{◌≡◌, ℕ, ◌+◌, ◌*◌, get_or, take, drop, refl, sym, ap, ◌∙◌}
use Rattle.device.proofs.Quiet.{quiet_searched}
use Rattle.device.proofs.Remarked.{drop-remarked, rows_remarked, tidy_remarked}
use Rattle.device.specs.Layout.{marks_of}
use Rattle.device.specs.Rows.{rows_in}
use Rattle.device.specs.Proved.Memory.{frame_same, framed}
use Rattle.std.proofs.lemmas.List.{get_or-drop, get_or-take, length-take-le}
use Rattle.table.proofs.Checks.{segment_granted}
use Rattle.table.proofs.Shapes.{segment_shaped}
use Rattle.table.proofs.Told.{segment_told}
use Rattle.table.specs.Row.{Row, marks_searched, searched}
use Rattle.device.proofs.as_table.DeviceTable.search.Goals as goal

pub returns-in_err-check_segment-clause-frame : goal.returns-in_err-check_segment-clause-frame
returns-in_err-check_segment-clause-frame c = frame_same _

pub compare-requires-clause-within : goal.compare-requires-clause-within
compare-requires-clause-within c =
    (segment_told _ _ _ _ (segment_shaped _ _ (rows_in c.args.self.now) c.shape.ensures.answer _ _ _ c.in_ok-check_segment.ensures.answer)).0

pub invariant_of-self-clause-tidy : goal.invariant_of-self-clause-tidy
invariant_of-self-clause-tidy c =
    let d = c.args.self.now in
    let ms = d.marks.now in
    let q = c.args.query in
    let word : ℕ → ℕ = λ r. get_or d.words.now (r * d.width + q.segment) 0 in
    let size = length-take-le d.depth ms d.marked in
    tidy_remarked ms c.compare.new.marks d.depth (c.compare.auto.marks ∙ size)
    (λ r lt. let old = marks_of (get_or ms r 0) in
    (marks_searched q (word r) old, rw (get_or-take d.depth ms r 0 lt) at (c.compare.ensures.memory r (rw size lt)), quiet_searched q (word r) old))

pub returns-clause-answer : goal.returns-clause-answer
returns-clause-answer c =
    let d = c.args.self.now in
    let within = (segment_told _ _ _ _ (segment_shaped _ _ (rows_in d) c.shape.ensures.answer _ _ _ c.in_ok-check_segment.ensures.answer)).0 in
    segment_granted _ _ _ within

pub returns-clause-rows : goal.returns-clause-rows
returns-clause-rows c =
    let d = c.args.self.now in
    let within = (segment_told _ _ _ _ (segment_shaped _ _ (rows_in d) c.shape.ensures.answer _ _ _ c.in_ok-check_segment.ensures.answer)).0 in
    let ms = d.marks.now in
    let ws = d.words.now in
    let q = c.args.query in
    let word : (r : ℕ) → get_or (take d.width (drop (r * d.width) ws)) q.segment 0 ≡ get_or ws (r * d.width + q.segment) 0 =
    λ r. get_or-take d.width (drop (r * d.width) ws) q.segment 0 within ∙ get_or-drop (r * d.width) ws q.segment 0 in
    let row : ℕ → ℕ → Row = λ r v. record { words = take d.width (drop (r * d.width) ws); marks = marks_searched q v (marks_of (get_or ms r 0)) } in
    let size = length-take-le d.depth ms d.marked in
    rows_remarked ms c.compare.new.marks d.depth (c.compare.auto.marks ∙ size) ws d.width (searched q)
    (λ r lt. (_, rw (get_or-take d.depth ms r 0 lt) at (c.compare.ensures.memory r (rw size lt)), ap (row r) (sym (word r))))

pub returns-clause-frame : goal.returns-clause-frame
returns-clause-frame c =
    let d = c.args.self.now in
    framed _ _ refl refl refl refl refl (drop-remarked d.marks.now c.compare.new.marks d.depth (c.compare.auto.marks ∙ length-take-le d.depth d.marks.now d.marked))
