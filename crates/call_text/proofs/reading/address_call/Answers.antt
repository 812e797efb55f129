use Rattle.call_text.proofs.Chains.{passed}
use Rattle.call_text.proofs.reading.address_call.Goals as goal

pub returns-else-is-4-clause-answer : goal.returns-else-is-4-clause-answer
returns-else-is-4-clause-answer c =
    passed _ _ _ _ c.if-is.ensures.answer (passed _ _ _ _ c.if-is-2.ensures.answer (passed _ _ _ _ c.if-is-3.ensures.answer (passed _ _ _ _ c.if-is-4.ensures.answer c.table_call.ensures.answer)))
