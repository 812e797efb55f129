-- Reading back a number that was written gives the same number. Assumes nothing.
use Rattle.std.proofs.Common.{◌≡◌, ℕ, zero, suc, ◌+◌, ◌/◌, ◌%◌, ◌^◌, ◌<◌, ◌≤◌, true, List, [], ◌∷◌, ◌++◌, length, length-append, refl, Some, decimal, arith}
use Rattle.std.proofs.lemmas.Fmt.{decimal_nonempty}
use Rattle.std.proofs.Math.Nat.{pow-le-pow_right}
use Rattle.std.specs.Char.{digit_char}
use Rattle.std.proofs.lemmas.List.{drop_at}
use Rattle.tokens.proofs.Reading.{number_here}
use Rattle.tokens.proofs.Written.{decimal_letters, decimal_number, hex_letters, hex_number, hex_some, letters}
use Rattle.tokens.specs.Hex.{hex_digits, hex_text}
use Rattle.tokens.specs.Laws.{Numbers32ReadBack, Numbers64ReadBack, ReadBack, ReadsBack}
use Rattle.tokens.specs.Numbers.{number_at, number_of}
use Rattle.tokens.specs.declared.faults.Expected.{Expected}

hex_digits_some : (k n : ℕ) → 0 < k → 0 < length (hex_digits k n)
unfolding hex_digits
hex_digits_some zero n some = absurd (omega arith)
hex_digits_some (suc k) n some = omega (arith, length-append (hex_digits k (n / 16)) (digit_char (n % 16) ∷ []))

reads_back : (most : ℕ) (expected : Expected) (w : List ℕ) (n : ℕ) → 0 < length w → letters w ≡ true → number_of most w ≡ Some n → ReadsBack (number_at most expected) w n
reads_back most expected w n some good reads before rest ends =
    number_here (before ++ (w ++ rest)) (length before) w rest (drop_at before (w ++ rest) (length before) refl) good ends most expected n some reads

pub read_back : (most : ℕ) (expected : Expected) (digits : ℕ) → most + 1 ≡ 16 ^ digits → 0 < digits → digits ≤ 16 → ReadBack most expected digits
read_back most expected digits whole some few n small =
    let fits : n < 2 ^ 64 = omega (arith, whole, pow-le-pow_right {n = 16} (omega arith) {i = digits} {j = 16} few) in (
      reads_back most expected (decimal n) n (decimal_nonempty n fits) (decimal_letters n fits) (decimal_number most n small fits),
      reads_back most expected (hex_text digits n) n (hex_some digits n) (hex_letters digits n) (hex_number most digits n (hex_digits_some digits n some) (omega (arith, whole)) small),
    )

pub numbers_32_read_back : Numbers32ReadBack
numbers_32_read_back n h = read_back _ _ 8 (omega arith) (omega arith) (omega arith) n (omega arith)

pub numbers_64_read_back : Numbers64ReadBack
numbers_64_read_back n h = read_back _ _ 16 (omega arith) (omega arith) (omega arith) n (omega arith)
