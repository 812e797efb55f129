use Rattle.std.proofs.Common.{ℕ, sym, ap}
use Rattle.device.specs.Proved.Rows.{length_rows}
use Rattle.table.specs.declared.parts.Shape.{Shape}
use Rattle.device.proofs.as_table.DeviceTable.shape.Goals as goal

pub returns : goal.returns
returns c =
    let d = c.args.self.now in
    let of : ℕ → Shape = λ n. record { width = d.width; depth = n } in
    record { answer = ap of (sym (length_rows d.words.now d.marks.now d.width d.depth)) }
