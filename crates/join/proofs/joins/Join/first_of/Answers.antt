use Rattle.std.proofs.Common.{rules}
use Rattle.join.proofs.Firsts.{first_found}
use Rattle.join.proofs.joins.Join.first_of.Goals as goal

pub returns : goal.returns
returns g c = record {
  answer = λ p even above under.
      let few = (g.U.Table.sound c.args.self.now.upper).few in
      first_found p 262144 _ _ _ _ (even _) few _ _ _ (above _ _ _ c.upper.ensures) c.or_else.ensures (λ q. search rules);
}
