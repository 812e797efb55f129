use Rattle.std.proofs.Common.{get_or, Ok, sym, ap, ◌∙◌}
use Rattle.device.specs.Layout.{marks_of}
use Rattle.device.specs.Proved.Rows.{line-granted, marks_at_rows}
use Rattle.device.proofs.as_table.DeviceTable.marks.Goals as goal

pub returns : goal.returns
returns c =
    let d = c.args.self.now in
    let at = c.in_ok-line.ensures.within in
    let told = marks_at_rows d.words.now d.marks.now d.width d.depth c.args.row at.1 in
    record {
      answer = ap Ok (c.unpack.ensures.answer ∙ ap (λ i. marks_of (get_or d.marks.now i 0)) at.0 ∙ sym told)
          ∙ line-granted d.words.now d.marks.now d.width d.depth c.args.row _ at.1;
    }
