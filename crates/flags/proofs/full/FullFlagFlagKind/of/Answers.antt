use Rattle.std.proofs.Common.{Some, sym, ◌∙◌, arith}
use Rattle.flags.proofs.Empties.{no_empty, one_empty}
use Rattle.flags.proofs.Parts.{told}
use Rattle.flags.proofs.full.FullFlagFlagKind.of.Goals as goal

pub returns-in-Some : goal.returns-in-Some
returns-in-Some g c =
    let part = one_empty (g.T.Table.rows c.args.table.now) c.args.from c.args.to c.in-Some.row c.in-Some.ensures.answer (omega arith) in
    record { flag = sym (told part); until = part }

pub returns-in_default : goal.returns-in_default
returns-in_default g c =
    let part = no_empty (g.T.Table.rows c.args.table.now) c.args.from c.args.to (Some c.in-Some.row) c.in-Some.ensures.answer (omega arith) in
    record { flag = sym (told part); until = part }

pub returns-in_default-2 : goal.returns-in_default-2
returns-in_default-2 g c =
    let part = no_empty (g.T.Table.rows c.args.table.now) c.args.from c.args.to c.first_empty.result c.first_empty.ensures.answer (rw (c.first_empty.ensures.answer ∙ sym c.in_default.ensures.answer) tt) in
    record { flag = sym (told part); until = part }
