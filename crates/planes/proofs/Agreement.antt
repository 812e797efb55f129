-- Key and word agree in every bit that the mask leaves exactly if no such bit differs. Assumes nothing.
--   same_low   the lowest n bits of two numbers are the same
use Rattle.std.proofs.Common.{◌≡◌, ℕ, ◌+◌, ◌*◌, ◌%◌, ◌^◌, ◌<◌, Bool, true, false, cond, not, ◌&&◌, ◌||◌, eqb, sym, refl, ◌∙◌, arith}
use lib.Bits.{bit_and, bit_or, bit_xor}
use Rattle.std.proofs.Math.Bool.{not-not}
use Rattle.std.proofs.lemmas.Bool.Decides.{Decides-and, Decides-eqb, Decides-like, nat_tests, same_from_decides}
use Rattle.std.proofs.lemmas.Nat.{mod-pow-add, mod_below, pow_pos, same_from_place, widths}
use Rattle.std.proofs.lemmas.Nat.Bits.{bit_at-lt}
use Rattle.std.specs.Int.{bit_at}
use Rattle.planes.specs.Bits.{bit_of}
use Rattle.planes.proofs.BitLaws.{bit_of-and, bit_of_none, bit_of-not_32, bit_of-not_64, bit_of-or, bit_of-xor, bit_read}
use Rattle.planes.proofs.Words.{bit_of-word_of, word_of_lt}

unfoldable pub same_low : ℕ → ℕ → ℕ → Bool
same_low n x y = eqb (x % 2 ^ n) (y % 2 ^ n)

pub same_none : (x y k : ℕ) → bit_of 0 k ≡ not (same_low 0 x y)
unfolding same_low
same_none x y k = let p : x % 2 ^ 0 ≡ 0 = omega arith in let q : y % 2 ^ 0 ≡ 0 = omega arith in rw (bit_of_none k, p, q)

pub same_all : (n x y : ℕ) → n ≡ 32 → x < 2 ^ 32 → y < 2 ^ 32 → same_low n x y ≡ eqb x y
unfolding same_low
same_all n x y e h k = let p : x % 2 ^ 32 ≡ x = omega arith in let q : y % 2 ^ 32 ≡ y = omega arith in rw (e, p, q)

-- one bit more
same_more : (n x y : ℕ) → same_low (n + 1) x y ≡ (same_low n x y && eqb (bit_at x n) (bit_at y n))
unfolding same_low
same_more n x y =
    let p : x % 2 ^ (n + 1) ≡ bit_at x n * 2 ^ n + x % 2 ^ n = low_more x in
    let q : y % 2 ^ (n + 1) ≡ bit_at y n * 2 ^ n + y % 2 ^ n = low_more y in
    same_from_decides (eqb (x % 2 ^ (n + 1)) (y % 2 ^ (n + 1))) (eqb (x % 2 ^ n) (y % 2 ^ n) && eqb (bit_at x n) (bit_at y n))
    (Decides-eqb (x % 2 ^ (n + 1)) (y % 2 ^ (n + 1)))
    (Decides-like (eqb (x % 2 ^ n) (y % 2 ^ n) && eqb (bit_at x n) (bit_at y n))
    (λ (e, f). p ∙ rw (e, f) refl ∙ sym q)
    (λ e. let same = same_from_place (bit_at x n) (x % 2 ^ n) (bit_at y n) (y % 2 ^ n) (2 ^ n) (mod_below x (2 ^ n) (pow_pos n)) (mod_below y (2 ^ n) (pow_pos n)) (sym p ∙ e ∙ q) in (same.1, same.0))
    (Decides-and (eqb (x % 2 ^ n) (y % 2 ^ n)) (eqb (bit_at x n) (bit_at y n)) (Decides-eqb (x % 2 ^ n) (y % 2 ^ n)) (Decides-eqb (bit_at x n) (bit_at y n))))
  where
    low_more : (z : ℕ) → z % 2 ^ (n + 1) ≡ bit_at z n * 2 ^ n + z % 2 ^ n
    low_more z = let e : n + 1 ≡ 1 + n = omega arith in rw e (mod-pow-add z 1 n)

same_bit : (x y n : ℕ) → eqb (bit_at x n) (bit_at y n) ≡ cond (bit_of x n) (bit_of y n) (not (bit_of y n))
unfolding bit_of
same_bit x y n = by_digits (bit_at x n) (bit_at y n) (bit_at-lt x n) (bit_at-lt y n)
  where
    by_digits : (x y : ℕ) → x < 2 → y < 2 → eqb x y ≡ cond (eqb x 1) (eqb y 1) (not (eqb y 1))
    by_digits x y h k = grind (arith, nat_tests)

-- one turn of the search: planes p of the word, w of the key and x of what the mask leaves
pub same_turn : (key mask word missed p w x n k : ℕ) → bit_of missed k ≡ not (same_low n (bit_or key mask) (bit_or word mask))
    → bit_of p k ≡ bit_of word n → bit_of w k ≡ bit_of key n → bit_of x k ≡ not (bit_of mask n)
    → bit_of (bit_or missed (bit_and (bit_xor p w) x)) k ≡ not (same_low (n + 1) (bit_or key mask) (bit_or word mask))
same_turn key mask word missed p w x n k em ep ew ex =
    rw (
      bit_of-or missed (bit_and (bit_xor p w) x) k,
      bit_of-and (bit_xor p w) x k,
      bit_of-xor p w k,
      em,
      ep,
      ew,
      ex,
      same_more n (bit_or key mask) (bit_or word mask),
      same_bit (bit_or key mask) (bit_or word mask) n,
      bit_of-or key mask n,
      bit_of-or word mask n,
    )
    (by_test (same_low n (bit_or key mask) (bit_or word mask)) (bit_of word n) (bit_of key n) (bit_of mask n))
  where
    by_test : (s w k m : Bool) → (not s || (cond w (not k) k && not m)) ≡ not (s && cond (k || m) (w || m) (not (w || m)))
    by_test false w k m = refl
    by_test true true true true = refl
    by_test true true true false = refl
    by_test true true false true = refl
    by_test true true false false = refl
    by_test true false true true = refl
    by_test true false true false = refl
    by_test true false false true = refl
    by_test true false false false = refl

pub ruleset agreement_laws = (bit_read, bit_of-not_32, bit_of-not_64, not-not, widths, bit_of-word_of, word_of_lt, same_all, same_none, same_turn)
