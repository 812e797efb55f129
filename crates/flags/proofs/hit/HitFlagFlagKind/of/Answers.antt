use Rattle.std.proofs.Common.{Some, sym, ◌∙◌, arith}
use Rattle.flags.proofs.Hits.{no_hit, one_hit, several_hits}
use Rattle.flags.proofs.Parts.{told}
use Rattle.flags.proofs.hit.HitFlagFlagKind.of.Goals as goal

pub returns-in_default : goal.returns-in_default
returns-in_default g c =
    let part = no_hit (g.T.Table.rows c.args.table.now) c.args.from c.args.to (Some c.in-Some.row) c.in-Some.ensures.answer (omega arith) in
    record { flag = sym (told part); until = part }

pub returns-in_default-2 : goal.returns-in_default-2
returns-in_default-2 g c =
    let part = no_hit (g.T.Table.rows c.args.table.now) c.args.from c.args.to c.first_hit.result c.first_hit.ensures.answer (rw (c.first_hit.ensures.answer ∙ sym c.in_default.ensures.answer) tt) in
    record { flag = sym (told part); until = part }

pub returns-in-Some-first_hit : goal.returns-in-Some-first_hit
returns-in-Some-first_hit g c =
    let part = several_hits (g.T.Table.rows c.args.table.now) c.args.from c.args.to c.in-Some.row c.in-Some.ensures.answer (omega arith) c.in-Some-first_hit.next c.in-Some-first_hit.ensures.answer (omega arith) in
    record { flag = sym (told part); until = part }

pub returns-in_default-first_hit : goal.returns-in_default-first_hit
returns-in_default-first_hit g c =
    let part = one_hit (g.T.Table.rows c.args.table.now) c.args.from c.args.to c.in-Some.row c.in-Some.ensures.answer (omega arith) (Some c.in-Some-first_hit.next) c.in-Some-first_hit.ensures.answer (omega arith) in
    record { flag = sym (told part); until = part }

pub returns-in_default-first_hit-2 : goal.returns-in_default-first_hit-2
returns-in_default-first_hit-2 g c =
    let part = one_hit (g.T.Table.rows c.args.table.now) c.args.from c.args.to c.in-Some.row c.in-Some.ensures.answer (omega arith) c.first_hit-2.result c.first_hit-2.ensures.answer (rw (c.first_hit-2.ensures.answer ∙ sym c.in_default-first_hit.ensures.answer) tt) in
    record { flag = sym (told part); until = part }
