-- The step hits as a word, step by step. Assumes nothing.
use Rattle.std.proofs.Common.{◌≡◌, ℕ, zero, suc, ◌+◌, ◌^◌, ◌<◌, ◌≤◌, Bool, true, false, List, get_or, pow-suc, add-one, arith}
use Rattle.std.proofs.lemmas.Nat.{pow_below}
use Rattle.ports.specs.Output.{bit_at, step_bits}

pub bit_at_le : (n : ℕ) (b : Bool) → bit_at n b ≤ 2 ^ n
bit_at_le n true = omega arith
bit_at_le n false = omega arith

pub step_bits_more : (hits : List Bool) (n : ℕ) → step_bits hits (n + 1) ≡ step_bits hits n + bit_at n (get_or hits n false)
unfolding step_bits
step_bits_more hits n = rw add-one

pub step_bits_lt : (hits : List Bool) (n : ℕ) → step_bits hits n < 2 ^ n
unfolding step_bits
step_bits_lt hits zero = omega arith
step_bits_lt hits (suc n) = omega (arith, step_bits_lt hits n, bit_at_le n (get_or hits n false), pow-suc 2 n)

-- one more of eight still fits a word
pub step_bits_fit : (hits : List Bool) (n : ℕ) (hit : Bool) → n < 8 → step_bits hits n + bit_at n hit < 2 ^ 32
step_bits_fit hits n hit h = omega (arith, step_bits_lt hits n, bit_at_le n hit, pow_below (suc n) 32 (omega arith), pow-suc 2 n)
