use Rattle.std.proofs.Common.{arith, subst}
use Rattle.flags.proofs.HandedOn.{handed_on}
use Rattle.flags.specs.Laws.{Lasting}
use Rattle.flags.proofs.call.carried.Goals as goal

pub returns-in-Some : goal.returns-in-Some
returns-in-Some g c = record {
  answer = λ start known rising fits.
      let so_far = subst (λ until. Lasting g.K.FlagKind.flag_of (g.T.Table.rows c.args.table.now) 0 start record { flag = c.args.so_far.flag; until = until }) c.in-Some.is known in
      handed_on g.K.FlagKind.laws (g.T.Table.rows c.args.table.now) start c.args.end c.in-Some.until c.args.so_far.flag _ so_far (omega arith) fits c.joined_on.ensures.answer;
}
