use Rattle.tokens.proofs.ReadBack.{numbers_32_read_back, numbers_64_read_back, read_back}
use Rattle.tokens.proofs.cursor.Cursor.number.Goals as goal

pub returns-in_err-number-clause-back : goal.returns-in_err-number-clause-back
returns-in_err-number-clause-back g c = let w = g.met.T.Numeral.whole in read_back _ _ _ w.0 w.1 w.2

pub returns-in_err-number-clause-back_32 : goal.returns-in_err-number-clause-back_32
returns-in_err-number-clause-back_32 g c = numbers_32_read_back

pub returns-in_err-number-clause-back_64 : goal.returns-in_err-number-clause-back_64
returns-in_err-number-clause-back_64 g c = numbers_64_read_back

pub returns-clause-back : goal.returns-clause-back
returns-clause-back g c = let w = g.met.T.Numeral.whole in read_back _ _ _ w.0 w.1 w.2

pub returns-clause-back_32 : goal.returns-clause-back_32
returns-clause-back_32 g c = numbers_32_read_back

pub returns-clause-back_64 : goal.returns-clause-back_64
returns-clause-back_64 g c = numbers_64_read_back
