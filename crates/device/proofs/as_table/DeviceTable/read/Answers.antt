use Rattle.std.proofs.Common.{get_or, Ok, sym, ap, ◌∙◌}
use Rattle.device.specs.Proved.Rows.{place_granted, word_at_rows}
use Rattle.device.proofs.as_table.DeviceTable.read.Goals as goal

pub returns : goal.returns
returns c =
    let d = c.args.self.now in
    let at = c.in_ok-at.ensures.within in
    let word = word_at_rows d.words.now d.marks.now d.width d.depth c.args.row c.args.segment at.1 at.2 in
    record {
      answer = ap Ok (ap (λ i. get_or d.words.now i 0) at.0 ∙ sym word)
          ∙ place_granted d.words.now d.marks.now d.width d.depth c.args.row c.args.segment _ at.1 at.2;
    }
