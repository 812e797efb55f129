-- The bits of a number: after and, or, xor and complement, and a number put together from its bits.
-- Assumes nothing.
use Rattle.std.proofs.Common.{◌≡◌, ℕ, zero, suc, ◌+◌, ◌-◌, ◌*◌, ◌/◌, ◌%◌, ◌^◌, ◌<◌, ◌≤◌, Bool, true, false, cond, not, ◌&&◌, ◌||◌, eqb, min, max, Some, None, sym, refl, ap, ◌∙◌, ⊎_elim, pow-suc, add-one, arith, w32, w64}
use lib.Bits.{bit_and, bit_or, bit_xor, or_shifted_r}
use Rattle.std.proofs.lemmas.Bool.{cases_lt, cases_eq, cond_both, eq-eqb, ne_eqb}
use Rattle.std.proofs.lemmas.Bool.Decides.{nat_tests}
use Rattle.std.proofs.lemmas.Nat.{one_shl, shr-shr, shr_le, mod_below, and_le_l, or_lt}
use Rattle.std.proofs.lemmas.Nat.Bits.{bit_at-lt, bit_at_and, bit_at_or, bit_at_xor, bit_at-zero, bit_at_not, bit_at_ones, bit_at_above, same_from_bits_below, shr_and_one, bit_at_set_same, bit_at_set_other, bit_at_clear_same, bit_at_clear_other, bit_at-trailing_zeros, bit_at_cat_low, bit_at_cat_high}
use Rattle.std.specs.Int.{Width, bit_at, bit_not, trailing_zeros}
use mir.Val.{bits}
use Rattle.planes.specs.Bits.{FirstBit, bit_of, number_of, with_bit}

-- the test that reads a bit
pub bit_read : (n k : ℕ) → eqb (bit_and (n / 2 ^ k) 1) 1 ≡ bit_of n k
unfolding bit_of
bit_read n k = ap (λ (x : ℕ). eqb x 1) (shr_and_one n k)

-- two digits
and_digits : (x y : ℕ) → x < 2 → y < 2 → eqb (min x y) 1 ≡ (eqb x 1 && eqb y 1)
and_digits x y h k = grind (arith, nat_tests)

or_digits : (x y : ℕ) → x < 2 → y < 2 → eqb (max x y) 1 ≡ (eqb x 1 || eqb y 1)
or_digits x y h k = grind (arith, nat_tests)

xor_digits : (x y : ℕ) → x < 2 → y < 2 → eqb ((x + y) % 2) 1 ≡ cond (eqb x 1) (not (eqb y 1)) (eqb y 1)
xor_digits x y h k = grind (arith, nat_tests)

module _ (a b k : ℕ) where
  pub bit_of-and : bit_of (bit_and a b) k ≡ (bit_of a k && bit_of b k)
  unfolding bit_of
  bit_of-and = rw (bit_at_and a b k) (and_digits (bit_at a k) (bit_at b k) (bit_at-lt a k) (bit_at-lt b k))

  pub bit_of-or : bit_of (bit_or a b) k ≡ (bit_of a k || bit_of b k)
  unfolding bit_of
  bit_of-or = rw (bit_at_or a b k) (or_digits (bit_at a k) (bit_at b k) (bit_at-lt a k) (bit_at-lt b k))

  -- the bits differ
  pub bit_of-xor : bit_of (bit_xor a b) k ≡ cond (bit_of a k) (not (bit_of b k)) (bit_of b k)
  unfolding bit_of
  bit_of-xor = rw (bit_at_xor a b k) (xor_digits (bit_at a k) (bit_at b k) (bit_at-lt a k) (bit_at-lt b k))

pub bit_of_none : (k : ℕ) → bit_of 0 k ≡ false
unfolding bit_of
bit_of_none k = rw (bit_at-zero k)

not_digit : (x y : ℕ) → x < 2 → y ≡ 1 - x → eqb y 1 ≡ not (eqb x 1)
not_digit x y h e = grind (arith, nat_tests)

-- the complement
pub bit_of-not : (w : Width) (x k : ℕ) → k < bits w → x < 2 ^ bits w → bit_of (bit_not w x) k ≡ not (bit_of x k)
unfolding bit_of
bit_of-not w x k h small = not_digit (bit_at x k) (bit_at (bit_not w x) k) (bit_at-lt x k) (bit_at_not w x k small h)

pub bit_of_ones : (n k : ℕ) → k < n → bit_of (2 ^ n - 1) k ≡ true
unfolding bit_of
bit_of_ones n k h = rw (bit_at_ones n k h)

-- numbers of n bits with the same bits are the same
same_digit : (x y : ℕ) → x < 2 → y < 2 → eqb x 1 ≡ eqb y 1 → x ≡ y
same_digit x y h k e = grind (arith, nat_tests)

pub same_bits : (n a b : ℕ) → a < 2 ^ n → b < 2 ^ n → ((k : ℕ) → k < n → bit_of a k ≡ bit_of b k) → a ≡ b
unfolding bit_of
same_bits n a b h k e = same_from_bits_below n a b h k (λ i l. same_digit (bit_at a i) (bit_at b i) (bit_at-lt a i) (bit_at-lt b i) (e i l))

-- a power of two over a number below it
placed : (n low : ℕ) → low < 2 ^ n → low + 2 ^ n ≡ bit_or low (2 ^ n)
placed n low h =
    let e : low + 2 ^ n ≡ 1 * 2 ^ n + low = omega arith in
    let g : 1 * 2 ^ n ≡ 2 ^ n = omega arith in
    e ∙ sym (or_shifted_r 1 n low h) ∙ ap (λ (z : ℕ). bit_or low z) g

-- a number put together from its bits
module _ (f : ℕ → Bool) where
  pub number_of_lt : (n : ℕ) → number_of f n < 2 ^ n
  unfolding number_of
  number_of_lt zero = omega arith
  number_of_lt (suc n) = cond_both (f n) (2 ^ n) 0 (λ x. number_of f n + x < 2 ^ suc n)
      (λ e. omega (arith, pow-suc 2 n, number_of_lt n)) (λ e. omega (arith, pow-suc 2 n, number_of_lt n))

  -- the top bit, set or not, over a number of n bits
  top : (b : Bool) (n low : ℕ) → low + cond b (2 ^ n) 0 ≡ cond b 1 0 * 2 ^ n + low
  top true n low = omega arith
  top false n low = omega arith

  top_digit : (b : Bool) → eqb (bit_at (cond b 1 0) 0) 1 ≡ b
  top_digit true = refl
  top_digit false = refl

  pub bit_of-number_of : (n k : ℕ) → k < n → bit_of (number_of f n) k ≡ f k
  unfolding number_of bit_of
  bit_of-number_of zero k h = absurd (omega arith)
  bit_of-number_of (suc n) k h = rw (top (f n) n (number_of f n)) (⊎_elim
      (λ l. rw (bit_at_cat_low (cond (f n) 1 0) n (number_of f n) k l) (bit_of-number_of n k l))
      (λ l. let e : k ≡ n = omega arith in let z : n - n ≡ 0 = omega arith in
      rw e (rw (bit_at_cat_high (cond (f n) 1 0) n (number_of f n) n (number_of_lt n) (omega arith), z) (top_digit (f n))))
      (cases_lt k n))

-- one more bit at the top, by `|= 1 << n` at a type of w bits
module _ (f : ℕ → Bool) (n : ℕ) where
  pub number_of-set : (w : ℕ) → n < w → f n ≡ true → bit_or (number_of f n) ((1 * 2 ^ n) % 2 ^ w) ≡ number_of f (n + 1)
  unfolding number_of
  number_of-set w h e = rw (one_shl n w h, add-one n, e) (sym (placed n (number_of f n) (number_of_lt f n)))

  pub number_of_unset : f n ≡ false → number_of f n ≡ number_of f (n + 1)
  unfolding number_of
  number_of_unset e = rw (add-one n, e) (omega arith)

-- the number with one bit replaced
module _ (place : ℕ) (b : Bool) (x : ℕ) where
  pub with_bit_lt : with_bit place b x < 2 ^ 64
  unfolding with_bit
  with_bit_lt = number_of_lt (λ k. cond (eqb k place) b (bit_of x k)) 64

  pub bit_of-with_bit : (k : ℕ) → k < 64 → bit_of (with_bit place b x) k ≡ cond (eqb k place) b (bit_of x k)
  unfolding with_bit
  bit_of-with_bit k h = bit_of-number_of (λ k. cond (eqb k place) b (bit_of x k)) 64 k h

  with_bit_from : (r : ℕ) → r < 2 ^ 64 → ((k : ℕ) → k < 64 → bit_of r k ≡ cond (eqb k place) b (bit_of x k)) → r ≡ with_bit place b x
  with_bit_from r h e = same_bits 64 r (with_bit place b x) h with_bit_lt (λ k l. e k l ∙ sym (bit_of-with_bit k l))

-- one bit set, and taken away
module _ (x place : ℕ) (small : x < 2 ^ 64) (within : place < 64) where
  pub with_bit-set : bit_or x ((1 * 2 ^ place) % 2 ^ 64) ≡ with_bit place true x
  unfolding bit_of
  with_bit-set = with_bit_from place true x _ (or_lt 64 x ((1 * 2 ^ place) % 2 ^ 64) small (mod_below (1 * 2 ^ place) (2 ^ 64) (omega arith)))
      (λ k l. ⊎_elim
      (λ e. rw e (rw (eq-eqb place place refl, bit_at_set_same w64 x place within)))
      (λ e. rw (ne_eqb k place e, bit_at_set_other w64 x place within k e))
      (cases_eq k place))

  pub with_bit-clear : bit_and x (bit_not w64 ((1 * 2 ^ place) % 2 ^ 64)) ≡ with_bit place false x
  unfolding bit_of
  with_bit-clear =
      let le = and_le_l x (bit_not w64 ((1 * 2 ^ place) % 2 ^ 64)) in
      with_bit_from place false x _ (omega arith)
      (λ k l. ⊎_elim
      (λ e. rw e (rw (eq-eqb place place refl, bit_at_clear_same w64 x place within)))
      (λ e. rw (ne_eqb k place e, bit_at_clear_other w64 x place within k l e))
      (cases_eq k place))

-- the smallest set place, from or later
module _ (x from : ℕ) where
  shifted : (k : ℕ) → from ≤ k → bit_at x k ≡ bit_at (x / 2 ^ from) (k - from)
  shifted k h = let s : from + (k - from) ≡ k = omega arith in
      sym (ap (λ (z : ℕ). z % 2) (shr-shr x from (k - from) ∙ ap (λ (z : ℕ). x / 2 ^ z) s))

  pub first_none : x / 2 ^ from ≡ 0 → FirstBit x from None
  unfolding bit_of
  first_none e k le lt = rw (shifted k le, e, bit_at-zero (k - from))

  pub first_some : x < 2 ^ 64 → 0 < x / 2 ^ from → FirstBit x from (Some (from + trailing_zeros w64 (x / 2 ^ from)))
  unfolding bit_of
  first_some small some =
      let left = x / 2 ^ from in
      let at = from + trailing_zeros w64 (x / 2 ^ from) in
      let lowest = bit_at-trailing_zeros w64 (x / 2 ^ from) some (omega (arith, shr_le x from)) in
      let back : at - from ≡ trailing_zeros w64 (x / 2 ^ from) = omega arith in
      let set : bit_at x at ≡ 1 = shifted at (omega arith) ∙ ap (bit_at (x / 2 ^ from)) back ∙ lowest.1 in (
        omega arith,
        ⊎_elim (λ l. l) (λ l. absurd (omega (arith, set, bit_at_above x 64 at small l))) (cases_lt at 64),
        rw set,
        λ k le lt. rw (shifted k le, lowest.2 (k - from) (omega arith)),
      )

-- what `grind` needs of planes
pub bit_of-not_64 : (x k : ℕ) → k < 64 → x < 2 ^ 64 → bit_of ((2 ^ 64 - 1) - x) k ≡ not (bit_of x k)
bit_of-not_64 = bit_of-not w64

pub bit_of-not_32 : (x k : ℕ) → k < 32 → x < 2 ^ 32 → bit_of ((2 ^ 32 - 1) - x) k ≡ not (bit_of x k)
bit_of-not_32 = bit_of-not w32

pub bit_of_ones_64 : (k : ℕ) → k < 64 → bit_of (2 ^ 64 - 1) k ≡ true
bit_of_ones_64 k h = bit_of_ones 64 k h

pub or_of_64 : (a b : ℕ) → a < 2 ^ 64 → b < 2 ^ 64 → bit_or a b < 2 ^ 64
or_of_64 = or_lt 64

-- a bit read, and a bit written
pub ruleset place_laws = (bit_read, with_bit-set, with_bit-clear)

pub ruleset plane_laws = (bit_of-and, bit_of-or, bit_of-not_64, bit_of_none, bit_of_ones_64, bit_of-with_bit, with_bit_lt)
