use Rattle.std.proofs.Common.{rules, ◌≡◌}
use Rattle.processor.proofs.Steps.{after_first}
use Rattle.processor.specs.Walks.{after}
use Rattle.table.specs.Row.{is_hit}
use Rattle.processor.proofs.processors.Processor.search.Goals as goal

pub returns-clause-registers : goal.returns-clause-registers
returns-clause-registers g c =
    let few = (g.T.Table.sound c.search.new.self).few in
    let e : c.after.result ≡ after is_hit (g.T.Table.rows c.search.new.self) c.first_hit-address.result =
    after_first is_hit (g.T.Table.rows c.search.new.self) few c.first_hit-address.result c.after.result (search rules) in
    search rules
