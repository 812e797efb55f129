use Rattle.std.proofs.Common.{◌≡◌, drop}
use Rattle.tokens.proofs.Numerals.{continued}
use Rattle.tokens.proofs.numbers.numeral.Given as goal

abbrev pub invariant-loop-byte : goal.invariant-loop-byte
invariant-loop-byte l = continued l.most l.radix l.number (drop l.byte-index l.digits) ≡ continued l.most l.radix 0 l.digits
