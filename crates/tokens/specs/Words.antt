-- Where words stand in a line of bytes. Assumes nothing.
--   is_blank, is_letter    what separates words, and what a word is made of
--   word_start, word_end   the first place from `at` on that is not blank; that ends a word
--   word_at                the word from `at` on, empty where none stands there
--   next_word, next_end    the first word from `at` on, and the place behind it
use Rattle.std.specs.Prelude.{ℕ, ◌+◌, Bool, not, ◌&&◌, ◌||◌, List, take, drop, ◌==◌}
use Rattle.std.specs.List.{prefix_len}
use Rattle.std.specs.Str.{bytes_eq}

abbrev pub is_blank : ℕ → Bool
is_blank b = b == 32 || (b == 9 || b == 13)

abbrev pub is_letter : ℕ → Bool
is_letter b = not (is_blank b) && (not (b == 61) && not (b == 35))

abbrev pub word_start : List ℕ → ℕ → ℕ
word_start line at = at + prefix_len is_blank (drop at line)

abbrev pub word_end : List ℕ → ℕ → ℕ
word_end line at = at + prefix_len is_letter (drop at line)

abbrev pub word_at : List ℕ → ℕ → List ℕ
word_at line at = take (prefix_len is_letter (drop at line)) (drop at line)

-- whether a word is a given text; shut, so that long texts stay whole in proofs
unfoldable pub is_text : List ℕ → List ℕ → Bool
is_text w text = bytes_eq w text

abbrev pub is_word : List ℕ → ℕ → List ℕ → Bool
is_word line at word = is_text (word_at line at) word

abbrev pub next_word : List ℕ → ℕ → List ℕ
next_word line at = word_at line (word_start line at)

abbrev pub next_end : List ℕ → ℕ → ℕ
next_end line at = word_end line (word_start line at)
