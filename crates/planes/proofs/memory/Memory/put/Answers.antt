use Rattle.std.proofs.Common.{refl, rules, arith}
use Rattle.std.proofs.lemmas.List.{places}
use Rattle.planes.proofs.Words.{planes_put}
use Rattle.planes.proofs.memory.Memory.put.Goals as goal

pub returns-then-segment-eq0 : goal.returns-then-segment-eq0
returns-then-segment-eq0 c = record {
  size = grind (arith, places);
  planes = planes_put c.args.cell.segment.number _ c.args.self.now.planes c.loop-b.plane-items (omega arith) (grind (arith, places)) (search rules)
      c.args.cell.segment.within c.args.cell.row.number c.args.word c.loop-b.b (grind (arith, places)) c.loop-b.invariant;
  empty = search rules;
  access = refl;
  hit = refl;
}

pub returns-else-segment-eq0 : goal.returns-else-segment-eq0
returns-else-segment-eq0 c = record {
  size = grind (arith, places);
  planes = planes_put c.args.cell.segment.number _ c.args.self.now.planes c.loop-b.plane-items (omega arith) (grind (arith, places)) (search rules)
      c.args.cell.segment.within c.args.cell.row.number c.args.word c.loop-b.b (grind (arith, places)) c.loop-b.invariant;
  empty = search rules;
  access = refl;
  hit = refl;
}
