use Rattle.tokens.specs.Words.{is_letter}
use Rattle.tokens.proofs.cursor.Cursor.word_end.Given as goal

abbrev pub ghost-leading : goal.ghost-leading
ghost-leading a = is_letter
