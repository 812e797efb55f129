use Rattle.std.proofs.Common.{rules, tests, sym, ◌∙◌}
use Rattle.std.proofs.lemmas.Iterator.{YieldsList-from_slice}
use Rattle.std.proofs.lemmas.Iterator.Adapters.{YieldsList-from_skip}
use Rattle.std.proofs.lemmas.Iterator.Consumers.{YieldsList-at}
use Rattle.std.proofs.lemmas.Iterator.Search.{any_from_yields_List}
use Rattle.registers.proofs.Ends.{some_ends_any}
use Rattle.registers.proofs.start.some_ends.Goals as goal

pub returns : goal.returns
returns g c = record {
  answer =
      any_from_yields_List g.S.Step.ends _ _ _ c.any.ensures.ran
      (YieldsList-from_skip c.args.from (YieldsList-at c.skip.ensures.source (YieldsList-from_slice c.args.steps.now (cc))) (cc))
      (λ x b q k. search (rules, tests))
      ∙ sym (some_ends_any g.S.Step.ends c.args.steps.now c.args.from);
}
