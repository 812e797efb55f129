use Rattle.std.proofs.Common.{rules, ◌≡◌}
use Rattle.processor.proofs.Steps.{after_first}
use Rattle.processor.specs.Walks.{after}
use Rattle.table.specs.Row.{is_hit}
use Rattle.processor.proofs.processors.Processor.next_hit.Goals as goal

pub returns : goal.returns
returns g c =
    let few = (g.T.Table.sound c.args.self.now.table).few in
    let e : c.after-next.result ≡ after is_hit (g.T.Table.rows c.args.self.now.table) c.args.self.now.registers.found.address =
    after_first is_hit (g.T.Table.rows c.args.self.now.table) few c.args.self.now.registers.found.address c.after-next.result (search rules) in
    search rules
