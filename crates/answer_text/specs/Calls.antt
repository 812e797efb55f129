-- The text of the answer of any call of a processor, and of its reply: that, or a refusal, as bytes. Assumes nothing.
use Rattle.std.specs.Prelude.{ℕ, List, Ok, Err, codes, Result}
use Rattle.answer_text.specs.Answers.{address_text}
use Rattle.answer_text.specs.Faults.{fault_text}
use Rattle.life.specs.declared.calls.Answer.{Answer}
use Rattle.life.specs.declared.calls.Answer.TheVariants.{Done, Word, Marks, Address, Registers, Block}
use Rattle.life.specs.declared.faults.Fault.{Fault}
use Rattle.ports.specs.Texts.{block_text}
use Rattle.table.specs.Texts.{marks_text}
use Rattle.tokens.specs.Hex.{hex_text}

abbrev pub answer_text : Answer → List ℕ
answer_text Done = codes "done"
answer_text (Word word) = hex_text 8 word
answer_text (Marks marks) = marks_text marks
answer_text (Address address) = address_text address
answer_text (Registers registers) = codes "told"
answer_text (Block answer) = block_text answer

abbrev pub reply_text : Result Answer Fault → List ℕ
reply_text (Ok answer) = answer_text answer
reply_text (Err fault) = fault_text fault
