-- What numbers in a line say. Assumes nothing.
--   all_digits          every byte is a digit of the radix
--   numeral_of          the number that digits write, at least one, if it is at most `most`
--   is_hex, number_of   a word is a number: behind `0x` or `0X` hexadecimal, else decimal
--   number_at           the number that the next word writes, and the place behind it
--   told_as, told       what was read, or its value, and the place behind it
use Rattle.std.specs.Prelude.{ℕ, Bool, true, cond, ◌&&◌, ◌||◌, List, [], ◌∷◌, length, take, drop, Some, None, Ok, Err, codes, Option, Result, ◌==◌, nat_le, nat_lt}
use Rattle.std.specs.Str.Parse.{digits_value}
use Rattle.std.specs.Char.{digit_value}
use Rattle.std.specs.Str.{bytes_eq}
use Rattle.tokens.specs.Faults.{fault_at}
use Rattle.tokens.specs.Words.{next_end, next_word, word_start}
use Rattle.tokens.specs.declared.faults.Expected.{Expected}
use Rattle.tokens.specs.declared.faults.Expected.TheVariants.{Number32, Number64}
use Rattle.tokens.specs.declared.faults.TextFault.{TextFault}

abbrev pub all_digits : ℕ → List ℕ → Bool
all_digits radix [] = true
all_digits radix (c ∷ cs) = nat_lt (digit_value c) radix && all_digits radix cs

-- n, if it is one and at most `most`
abbrev pub fitting : Bool → ℕ → ℕ → Option ℕ
fitting good most n = cond (good && nat_le n most) (Some n) None

abbrev pub numeral_of : ℕ → ℕ → List ℕ → Option ℕ
numeral_of most radix ds = cond (length ds == 0) None (fitting (all_digits radix ds) most (digits_value radix ds))

abbrev pub is_hex : List ℕ → Bool
is_hex w = bytes_eq (codes "0x") (take 2 w) || bytes_eq (codes "0X") (take 2 w)

unfoldable pub number_of : ℕ → List ℕ → Option ℕ
number_of most w = cond (is_hex w) (numeral_of most 16 (drop 2 w)) (numeral_of most 10 w)

abbrev pub or_fault : ℕ → Expected → ℕ → Option ℕ → Result (ℕ × ℕ) TextFault
or_fault at expected end (Some n) = Ok (n, end)
or_fault at expected end None = Err (fault_at at expected)

abbrev pub number_at : ℕ → Expected → List ℕ → ℕ → Result (ℕ × ℕ) TextFault
number_at most expected line at = or_fault (word_start line at) expected (next_end line at) (number_of most (next_word line at))

abbrev pub number32 : List ℕ → ℕ → Result (ℕ × ℕ) TextFault
number32 = number_at 4294967295 Number32

abbrev pub number64 : List ℕ → ℕ → Result (ℕ × ℕ) TextFault
number64 = number_at 18446744073709551615 Number64

abbrev pub told_as : {X Y : Type 0} → (X → Y) → Result X TextFault → ℕ → Result (Y × ℕ) TextFault
told_as value (Ok x) at = Ok (value x, at)
told_as value (Err e) at = Err e

abbrev pub told : {X : Type 0} → Result X TextFault → ℕ → Result (X × ℕ) TextFault
told r at = told_as (λ x. x) r at
