use Rattle.std.proofs.Common.{rules, ◌≡◌}
use Rattle.processor.proofs.Steps.{after_first}
use Rattle.processor.specs.Walks.{after}
use Rattle.table.specs.Row.{is_empty}
use Rattle.processor.proofs.processors.Processor.next_empty.Goals as goal

pub returns : goal.returns
returns g c =
    let few = (g.T.Table.sound c.args.self.now.table).few in
    let e : c.after-next.result ≡ after is_empty (g.T.Table.rows c.args.self.now.table) c.args.self.now.registers.empty =
    after_first is_empty (g.T.Table.rows c.args.self.now.table) few c.args.self.now.registers.empty c.after-next.result (search rules) in
    search rules
