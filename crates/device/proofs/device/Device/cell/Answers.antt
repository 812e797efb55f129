use Rattle.std.proofs.Common.{◌+◌, ◌*◌, ◌<◌, length, refl, arith}
use Rattle.std.proofs.lemmas.Nat.{mul-add-lt}
use Rattle.table.proofs.Shapes.{cell_shaped}
use Rattle.table.proofs.Told.{cell-told}
use Rattle.device.specs.Proved.Rows.{length_rows, place_granted}
use Rattle.device.proofs.device.Device.cell.Goals as goal

pub returns : goal.returns
returns c =
    let d = c.args.self.now in
    let told = cell-told _ _ _ _ _ _ (cell_shaped _ _ _ c.shape.ensures.answer _ _ _ _ c.in_ok-check_cell.ensures.answer) in
    let row = rw length_rows at told.0 in
    let held : c.args.row * d.width + c.args.segment < length d.words.now = omega (arith, mul-add-lt c.args.row d.width c.args.segment d.depth row told.1, d.worded) in
    record {
      answer = place_granted d.words.now d.marks.now d.width d.depth c.args.row c.args.segment _ row told.1;
      within = (refl, row, told.1, held);
    }
