use Rattle.std.proofs.Common.{refl}
use Rattle.table.proofs.Shapes.{row_shaped}
use Rattle.table.proofs.Told.{row_told}
use Rattle.device.specs.Proved.Rows.{length_rows, line-granted}
use Rattle.device.proofs.device.Device.line.Goals as goal

pub returns : goal.returns
returns c =
    let d = c.args.self.now in
    let told = row_told _ _ _ _ (row_shaped _ _ _ c.shape.ensures.answer _ _ _ c.in_ok-check_row.ensures.answer) in
    let within = rw length_rows at told.0 in
    record {
      answer = line-granted d.words.now d.marks.now d.width d.depth c.args.row _ within;
      within = (refl, within);
    }
