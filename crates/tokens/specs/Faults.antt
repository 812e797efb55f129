-- What is wrong at a place, and what a user reads of the thing that should have stood there. Assumes nothing.
use Rattle.std.specs.Prelude.{ℕ, List, codes}
use Rattle.tokens.specs.declared.faults.Expected.{Expected}
use Rattle.tokens.specs.declared.faults.Expected.TheVariants.{Number32, Number64, Call, State, Purge, Item, Member, MemberOrCall, AnswerOrEnd, End, FlagKind, Register, Answer, Width}
use Rattle.tokens.specs.declared.faults.TextFault.{TextFault}

abbrev pub fault_at : ℕ → Expected → TextFault
fault_at at expected = record { at = at; expected = expected }

abbrev pub expected_text : Expected → List ℕ
expected_text Number32 = codes "a number below 4294967296"
expected_text Number64 = codes "a number below 18446744073709551616"
expected_text Call = codes "the name of a call"
expected_text State = codes "`valid` or `empty`"
expected_text Purge = codes "`all`, `with-access` or `without-access`"
expected_text Item = codes "`key`, `status`, `address` or `segment`"
expected_text Member = codes "`device` or `planes`"
expected_text MemberOrCall = codes "a member or the name of a call"
expected_text AnswerOrEnd = codes "`=` or the end of the line"
expected_text End = codes "the end of the line"
expected_text FlagKind = codes "`hit` or `full`"
expected_text Register = codes "the name of a register"
expected_text Answer = codes "an answer"
expected_text Width = codes "a width of 1 to 8"
