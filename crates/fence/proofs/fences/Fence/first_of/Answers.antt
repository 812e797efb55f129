use Rattle.std.proofs.Common.{◌-◌, ◌^◌, arith, rules}
use Rattle.fence.proofs.Hiding.{first-shown}
use Rattle.fence.proofs.fences.Fence.first_of.Goals as goal

pub returns : goal.returns
returns g c = record {
  answer = λ p tells.
      let t = c.args.self.now in
      let few = (g.T.Table.sound t.table).few in
      first-shown t.hidden (g.T.Table.rows t.table) p _ (2 ^ 32 - 1) _ _ _ (omega arith) c.saturating_add-place.ensures (tells _ _ _ c.ask.ensures) (search rules);
}
