use Rattle.std.proofs.Common.{rules}
use Rattle.table.specs.Row.{cleared}
use Rattle.device.proofs.as_table.DeviceTable.reset.Goals as goal

pub returns-clause-rows : goal.returns-clause-rows
returns-clause-rows c = c.sweep.ensures.rows (λ _. cleared) (λ m n p. search rules)
