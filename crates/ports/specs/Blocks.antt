-- The buffers that blocks go into, and the keys that are cut from them. Assumes nothing.
--   low n, high n   the lower and the upper n bits of a word
--   joined a n b    a followed by the n bits b
--   bit_of          whether bit b of a number is set
use Rattle.std.specs.Prelude.{◌≡◌, ℕ, ◌+◌, ◌-◌, ◌*◌, ◌/◌, ◌%◌, ◌^◌, Bool, ◌==◌}
pub use Rattle.registers.specs.Setting.{bits_of}
use Rattle.registers.specs.declared.state.Buffers.{Buffers}

abbrev pub low : ℕ → ℕ → ℕ
low n word = word % 2 ^ n

abbrev pub high : ℕ → ℕ → ℕ
high n word = word / 2 ^ (32 - n)

abbrev pub joined : ℕ → ℕ → ℕ → ℕ
joined a n b = a * 2 ^ n + b

abbrev pub bit_of : ℕ → ℕ → Bool
bit_of word b = word / 2 ^ b % 2 == 1

-- a block of w bits comes in at the low end of the accumulation buffer, and what leaves its top
-- comes in at the low end of the other one
abbrev pub shifted_in : ℕ → ℕ → Buffers → Buffers
shifted_in w block b = record {
  accumulation = joined (low (32 - w) b.accumulation) w block;
  sub = joined (low (32 - w) b.sub) w (high w b.accumulation);
}

-- the lower 4 - n bytes of the accumulation buffer, followed by the upper n bytes of the other one
abbrev pub key_at : ℕ → Buffers → ℕ
key_at n b = joined (low (8 * (4 - n)) b.accumulation) (8 * n) (high (8 * n) b.sub)

abbrev pub shown : Buffers
shown = record { accumulation = 0x11223344; sub = 0x55667788 }

-- the four keys that these buffers hold
pub record FourKeys : Type 0 where
  pub none : key_at 0 shown ≡ 0x11223344
  pub one : key_at 1 shown ≡ 0x22334455
  pub two : key_at 2 shown ≡ 0x33445566
  pub three : key_at 3 shown ≡ 0x44556677
