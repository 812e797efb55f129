use Rattle.tokens.specs.Words.{is_blank}
use Rattle.tokens.proofs.cursor.Cursor.word_start.Given as goal

abbrev pub ghost-leading : goal.ghost-leading
ghost-leading a = is_blank
