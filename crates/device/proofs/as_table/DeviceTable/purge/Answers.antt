use Rattle.std.proofs.Common.{rules}
use Rattle.table.specs.Row.{marks_purged}
use Rattle.device.proofs.as_table.DeviceTable.purge.Goals as goal

pub returns-clause-rows : goal.returns-clause-rows
returns-clause-rows c = c.sweep.ensures.rows (marks_purged c.args.kind) (λ m n p. search rules)
