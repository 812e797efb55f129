use Rattle.std.proofs.Common.{rules}
use Rattle.table.specs.Row.{marks_unvisited}
use Rattle.device.proofs.as_table.DeviceTable.clear_access.Goals as goal

pub returns-clause-rows : goal.returns-clause-rows
returns-clause-rows c = c.sweep.ensures.rows marks_unvisited (λ m n p. search rules)
