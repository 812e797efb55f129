-- The number that digits write, digit by digit. Assumes nothing.
--   continued    the number that digits write after those of n
use Rattle.std.proofs.Common.{◌≡◌, ℕ, ◌+◌, ◌*◌, ◌<◌, ◌≤◌, Bool, true, false, ◌&&◌, eqb, ltb, List, [], ◌∷◌, length, get_or, drop, Some, None, Option, sym, ◌∙◌, mul-le-mul_left, arith}
use Rattle.std.proofs.lemmas.List.{at_drop_more}
use Rattle.std.proofs.lemmas.Bool.{and_right, cond-false, cond-true, le-leb, lt-leb}
use Rattle.std.specs.Str.Parse.{digits_value_after}
use Rattle.std.specs.Char.{digit_value}
use Rattle.tokens.specs.Numbers.{all_digits, fitting, is_hex, number_of, numeral_of}

abbrev pub continued : ℕ → ℕ → ℕ → List ℕ → Option ℕ
continued most radix n ds = fitting (all_digits radix ds) most (digits_value_after radix n ds)

pub value_after_ge : (radix n : ℕ) (ds : List ℕ) → 0 < radix → n ≤ digits_value_after radix n ds
value_after_ge radix n [] h = omega arith
value_after_ge radix n (c ∷ cs) h = omega (arith, mul-le-mul_left n h, value_after_ge radix (n * radix + digit_value c) cs h)

pub fitting_over : (b : Bool) (most n : ℕ) → most < n → None ≡ fitting b most n
fitting_over b most n over = sym (cond-false _ _ _ (and_right b _ (lt-leb n most over)))

module _ (most radix n : ℕ) (ds : List ℕ) (i : ℕ) (inside : i < length ds) where
  abbrev digit : ℕ
  digit = digit_value (get_or ds i 0)

  abbrev rest : List ℕ
  rest = drop (i + 1) ds

  left : continued most radix n (drop i ds) ≡ fitting (ltb digit radix && all_digits radix rest) most (digits_value_after radix (n * radix + digit) rest)
  left = at_drop_more (continued most radix n) ds i 0 inside

  pub continued_over : digit < radix → most < n * radix + digit → None ≡ continued most radix n (drop i ds)
  continued_over good over = fitting_over _ most _ (omega (arith, value_after_ge radix (n * radix + digit) rest (omega arith))) ∙ sym left

pub numeral_from : (most radix : ℕ) (ds : List ℕ) (r : Option ℕ) → eqb (length ds) 0 ≡ false → r ≡ continued most radix 0 ds → r ≡ numeral_of most radix ds
numeral_from most radix ds r some e = e ∙ sym (cond-false _ _ _ some)

pub fitting_most : (most n : ℕ) → n ≤ most → Some n ≡ fitting true most n
fitting_most most n h = sym (cond-true _ _ _ (le-leb n most h))

pub number_hex : (most : ℕ) (w : List ℕ) → is_hex w ≡ true → number_of most w ≡ numeral_of most 16 (drop 2 w)
unfolding number_of
number_hex most w hex = cond-true _ _ _ hex

pub number_decimal : (most : ℕ) (w : List ℕ) → is_hex w ≡ false → number_of most w ≡ numeral_of most 10 w
unfolding number_of
number_decimal most w plain = cond-false _ _ _ plain
