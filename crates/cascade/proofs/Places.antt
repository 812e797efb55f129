-- The next power of two, from 2 on, is how many places a cascade has. Assumes nothing.
use Rattle.std.proofs.Common.{◌≡◌, ℕ, zero, suc, ◌^◌, ◌/◌, ◌<◌, ◌≤◌, min, max, arith}
use Rattle.std.proofs.lemmas.Bool.Decides.{nat_tests as tells}
use Rattle.std.proofs.Math.Pow.{pow_mono}
use Rattle.std.specs.Int.{IsPowerOfTwo}
use Rattle.cascade.specs.Cascades.{places_for}

by_power : (k n p : ℕ) → p ≡ 2 ^ k → min n 32 ≤ p → p / 2 < max 1 (min n 32) → max p 2 ≡ places_for n
by_power zero n p e le lt = let q : p ≡ 1 = e in grind (arith, tells)
by_power (suc zero) n p e le lt = let q : p ≡ 2 = e in grind (arith, tells)
by_power (suc (suc zero)) n p e le lt = let q : p ≡ 4 = e in grind (arith, tells)
by_power (suc (suc (suc zero))) n p e le lt = let q : p ≡ 8 = e in grind (arith, tells)
by_power (suc (suc (suc (suc zero)))) n p e le lt = let q : p ≡ 16 = e in grind (arith, tells)
by_power (suc (suc (suc (suc (suc zero))))) n p e le lt = let q : p ≡ 32 = e in grind (arith, tells)
by_power (suc (suc (suc (suc (suc (suc k)))))) n p e le lt =
    let h : 2 ^ 6 ≤ 2 ^ suc (suc (suc (suc (suc (suc k))))) = pow_mono {i = 6} {j = suc (suc (suc (suc (suc (suc k)))))} (omega arith) in absurd (omega arith)

pub next_places : (n p : ℕ) → IsPowerOfTwo p → min n 32 ≤ p → p / 2 < max 1 (min n 32) → max p 2 ≡ places_for n
next_places n p (k, e) le lt = by_power k n p e le lt
