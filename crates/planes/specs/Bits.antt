-- The bits of a number. Assumes nothing.
--   bit_of n k          bit k of n is set
--   number_of f n       the number of n bits whose bit k is f k
--   with_bit k b n      the number of 64 bits with the bits of n, but b at place k
--   FirstBit n from r   r names the smallest place of a 64-bit number, from or later, whose bit is set
use Rattle.std.specs.Prelude.{◌≡◌, ℕ, zero, suc, ◌+◌, ◌/◌, ◌%◌, ◌^◌, ◌<◌, ◌≤◌, Bool, true, false, cond, Some, None, Option, ◌==◌}

unfoldable pub bit_of : ℕ → ℕ → Bool
bit_of n k = n / 2 ^ k % 2 == 1

unfoldable pub number_of : (ℕ → Bool) → ℕ → ℕ
number_of f zero = 0
number_of f (suc n) = number_of f n + cond (f n) (2 ^ n) 0

unfoldable pub with_bit : ℕ → Bool → ℕ → ℕ
with_bit place b n = number_of (λ k. cond (k == place) b (bit_of n k)) 64

abbrev pub FirstBit : ℕ → ℕ → Option ℕ → Type 0
FirstBit n from None = (k : ℕ) → from ≤ k → k < 64 → bit_of n k ≡ false
FirstBit n from (Some a) = (from ≤ a) × (a < 64) × (bit_of n a ≡ true) × ((k : ℕ) → from ≤ k → k < a → bit_of n k ≡ false)
