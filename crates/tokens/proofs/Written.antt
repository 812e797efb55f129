-- What a written number says, read as a word. Assumes nothing.
--   letters     every byte is part of a word
use Rattle.std.proofs.Common.{◌≡◌, ℕ, zero, suc, ◌/◌, ◌%◌, ◌^◌, ◌<◌, ◌≤◌, Bool, true, false, ◌&&◌, eqb, List, [], ◌∷◌, length, Some, decimal, sym, refl, ap, ◌∙◌, pow-suc, arith}
use Rattle.std.proofs.lemmas.Fmt.{decimal_is_IsNumeral}
use Rattle.std.proofs.lemmas.Int.Digits.{digits_push, digits_value_push}
use Rattle.std.proofs.lemmas.Bool.{and_from, and_left, and_right, cond-false, lt-ltb, ne_eqb, or_from}
use Rattle.std.proofs.lemmas.Str.{digit_value-digit_char}
use Rattle.std.specs.Str.Parse.{AllDigits, IsNumeral, digits_value}
use Rattle.std.specs.Char.{digit_char, digit_value}
use Rattle.tokens.proofs.Numerals.{fitting_most, number_decimal, number_hex}
use Rattle.tokens.specs.Hex.{hex_digits, hex_text}
use Rattle.tokens.specs.Numbers.{all_digits, fitting, is_hex, number_of, numeral_of}
use Rattle.tokens.specs.Words.{is_letter}

abbrev pub letters : List ℕ → Bool
letters [] = true
letters (b ∷ bs) = is_letter b && letters bs

no_digit : (c k : ℕ) → digit_value c < 36 → digit_value k ≡ 36 → eqb c k ≡ false
no_digit c k h e = ne_eqb c k (λ same. omega (arith, ap digit_value same))

digit_letter : (c : ℕ) → digit_value c < 36 → is_letter c ≡ true
digit_letter c h = rw (no_digit c 32 h refl, no_digit c 9 h refl, no_digit c 13 h refl, no_digit c 61 h refl, no_digit c 35 h refl)

pub digits_letters : (radix : ℕ) (ds : List ℕ) → radix ≤ 36 → AllDigits radix ds → letters ds ≡ true
digits_letters radix [] small h = refl
digits_letters radix (c ∷ cs) small h = and_from (is_letter c) (letters cs) (digit_letter c (omega (arith, h.0))) (digits_letters radix cs small h.1)

digits_all : (radix : ℕ) (ds : List ℕ) → AllDigits radix ds → all_digits radix ds ≡ true
digits_all radix [] h = refl
digits_all radix (c ∷ cs) h = and_from _ _ (lt-ltb (digit_value c) radix h.0) (digits_all radix cs h.1)

-- digits that write n are read as n
numeral_reads : (most radix : ℕ) (ds : List ℕ) (n : ℕ) → IsNumeral radix ds → digits_value radix ds ≡ n → n ≤ most → numeral_of most radix ds ≡ Some n
numeral_reads most radix ds n h e small =
    cond-false _ _ _ (ne_eqb (length ds) 0 (λ z. omega (arith, h.0))) ∙ ap (λ b. fitting b most (digits_value radix ds)) (digits_all radix ds h.1) ∙ ap (fitting true most) e ∙ sym (fitting_most most n small)

-- no decimal number begins as a hexadecimal one
plain : (ds : List ℕ) → AllDigits 10 ds → is_hex ds ≡ false
plain [] h = refl
plain (c ∷ []) h = or_from _ _ (and_right (eqb 48 c) false refl) (and_right (eqb 48 c) false refl)
plain (c ∷ d ∷ ds) h =
    or_from _ _
    (and_right (eqb 48 c) _ (and_left (eqb 120 d) _ (ne_eqb 120 d (λ e. omega (arith, ap digit_value e, h.1.0)))))
    (and_right (eqb 48 c) _ (and_left (eqb 88 d) _ (ne_eqb 88 d (λ e. omega (arith, ap digit_value e, h.1.0)))))

pub decimal_number : (most n : ℕ) → n ≤ most → n < 2 ^ 64 → number_of most (decimal n) ≡ Some n
decimal_number most n small fits =
    let h = decimal_is_IsNumeral n fits in
    number_decimal most (decimal n) (plain (decimal n) h.0.1) ∙ numeral_reads most 10 (decimal n) n h.0 h.1 small

pub hex_digits_lem : (count n : ℕ) → AllDigits 16 (hex_digits count n)
unfolding hex_digits
hex_digits_lem zero n = tt
hex_digits_lem (suc count) n = digits_push 16 (hex_digits count (n / 16)) (digit_char (n % 16)) (hex_digits_lem count (n / 16)) (omega (arith, digit_value-digit_char (n % 16) (omega arith)))

hex_value : (count n : ℕ) → n < 16 ^ count → digits_value 16 (hex_digits count n) ≡ n
unfolding hex_digits
hex_value zero n h = omega arith
hex_value (suc count) n h =
    omega (
      arith,
      digits_value_push 16 (hex_digits count (n / 16)) (digit_char (n % 16)),
      hex_value count (n / 16) (omega (arith, pow-suc 16 count)),
      digit_value-digit_char (n % 16) (omega arith),
    )

pub hex_some : (count n : ℕ) → 0 < length (hex_text count n)
hex_some count n = omega arith

pub hex_number : (most count n : ℕ) → 0 < length (hex_digits count n) → n < 16 ^ count → n ≤ most → number_of most (hex_text count n) ≡ Some n
hex_number most count n some fits small = number_hex most (hex_text count n) refl ∙ numeral_reads most 16 (hex_digits count n) n (some, hex_digits_lem count n) (hex_value count n fits) small

pub hex_letters : (count n : ℕ) → letters (hex_text count n) ≡ true
hex_letters count n = digits_letters 16 (hex_digits count n) (omega arith) (hex_digits_lem count n)

pub decimal_letters : (n : ℕ) → n < 2 ^ 64 → letters (decimal n) ≡ true
decimal_letters n fits = digits_letters 10 (decimal n) (omega arith) (decimal_is_IsNumeral n fits).0.1
