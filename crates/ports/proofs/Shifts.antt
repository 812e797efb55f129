-- A word moved up, with other bits put in below. Assumes nothing.
use Rattle.std.proofs.Common.{◌≡◌, ℕ, ◌+◌, ◌-◌, ◌*◌, ◌/◌, ◌%◌, ◌^◌, ◌<◌, ◌≤◌, ltb, if◌then◌else◌, subst, ◌∙◌, add-zero, arith}
use native.Mathlib.Nat.{mul-mod_left}
use lib.Bits.{bit_or}
use Rattle.std.proofs.Math.Pow.{shr_lt}
use Rattle.std.proofs.lemmas.Bool.Decides.{nat_tests}
use Rattle.std.proofs.lemmas.Nat.{mod-pow-add, or_shifted, shl-shr}
use Rattle.ports.specs.Blocks.{joined, low}

-- what is shifted out at the top is lost
low_shifted : (j k a : ℕ) → (a * 2 ^ k) % 2 ^ (j + k) ≡ low j a * 2 ^ k
low_shifted j k a = mod-pow-add (a * 2 ^ k) j k ∙ rw (shl-shr a k, mul-mod_left a (2 ^ k)) (add-zero (low j a * 2 ^ k))

joined_shifted : (j k a b : ℕ) → b < 2 ^ k → bit_or ((a * 2 ^ k) % 2 ^ (j + k)) b ≡ joined (low j a) k b
joined_shifted j k a b h = rw (low_shifted j k a) (or_shifted (low j a) k b h)

-- some of a word's 32 bits moved out
some_moved : (k a b : ℕ) → k ≤ 32 → b < 2 ^ k → bit_or ((a * 2 ^ k) % 2 ^ 32) b ≡ joined (low (32 - k) a) k b
some_moved k a b le h =
    let e : 32 - k + k ≡ 32 = omega arith in
    let P : ℕ → Type 0 = λ n. bit_or ((a * 2 ^ k) % 2 ^ n) b ≡ joined (low (32 - k) a) k b in
    subst P e (joined_shifted (32 - k) k a b h)

-- or all of them
all_moved : (a b : ℕ) → bit_or 0 b ≡ joined (low 0 a) 32 b
all_moved a b = omega arith

pub moved : (k a b : ℕ) → k ≤ 32 → b < 2 ^ k → bit_or (if ltb k 32 then (a * 2 ^ k) % 2 ^ 32 else 0) b ≡ joined (low (32 - k) a) k b
moved k a b le h = grind (arith, nat_tests, some_moved, all_moved)

pub few_high : (k a : ℕ) → k ≤ 32 → a < 2 ^ 32 → (if ltb (32 - k) 32 then a / 2 ^ (32 - k) else 0) < 2 ^ k
few_high k a le h = grind (arith, nat_tests, shr_lt)
