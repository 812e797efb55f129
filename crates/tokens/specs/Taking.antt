-- The next word of a line, taken. Assumes nothing.
use Rattle.std.specs.Prelude.{◌≡◌, ℕ, List, length, Option, MatchOption}
use Rattle.tokens.specs.Words.{next_end, next_word, word_start}
use Rattle.tokens.specs.declared.cursor.Cursor.{Cursor}
use Rattle.tokens.specs.declared.words.Word.{Word}

-- w is the first word from a place of a line on
pub record IsNext (line : List ℕ) (at : ℕ) (w : Word) : Type 0 where
  pub text : w.text.now ≡ next_word line at
  pub start : w.start ≡ word_start line at
  pub end : w.end ≡ next_end line at

-- no word stands from c on, and the place stays; or the first word is taken, and d is behind it
abbrev pub TakesWord : Cursor → Option Word → Cursor → Type 0
TakesWord c r d = MatchOption r ((length (next_word c.line.now c.at) ≡ 0) × (d ≡ c)) (λ w. IsNext c.line.now c.at w × (d.line ≡ c.line) × (d.at ≡ w.end))
