-- A number as `0x` and a given count of hexadecimal digits. Assumes nothing.
use Rattle.std.specs.Prelude.{ℕ, zero, suc, ◌/◌, ◌%◌, List, [], ◌∷◌, ◌++◌, codes}
use Rattle.std.specs.Char.{digit_char}

-- the last `count` digits of n
unfoldable pub hex_digits : ℕ → ℕ → List ℕ
hex_digits zero n = []
hex_digits (suc count) n = hex_digits count (n / 16) ++ (digit_char (n % 16) ∷ [])

abbrev pub hex_text : ℕ → ℕ → List ℕ
hex_text count n = codes "0x" ++ hex_digits count n
