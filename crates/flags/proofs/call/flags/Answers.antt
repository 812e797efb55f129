use Rattle.std.proofs.Common.{length, rules}
use Rattle.flags.proofs.HandedOn.{running_told}
use Rattle.flags.specs.Cuts.{Cut}
use Rattle.flags.proofs.call.flags.Goals as goal

pub returns-clause-running : goal.returns-clause-running
returns-clause-running g c =
    let cut : Cut c.args.cut.now (length (g.T.Table.rows c.args.table.now)) = search rules in
    running_told g.K.FlagKind.laws (g.T.Table.rows c.args.table.now) c.args.cut.now cut
