use Rattle.std.proofs.Common.{refl}
use Rattle.device.proofs.FirstRow.{first_rows}
use Rattle.table.specs.Row.{is_empty}
use Rattle.device.proofs.as_table.DeviceTable.first_empty.Goals as goal

pub returns : goal.returns
returns c =
    let d = c.args.self.now in
    record { answer = first_rows d.words.now d.marks.now d.width d.depth is_empty _ (λ r. refl) c.args.from c.first_from.result c.first_from.ensures }
