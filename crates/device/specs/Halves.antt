-- The first row in a range that has a mark. Assumes nothing.
use Rattle.std.specs.Prelude.{◌≡◌, ℕ, ◌<◌, ◌≤◌, Bool, true, false, not, Some, None, Option, ◌==◌, bit_and}

abbrev pub has_bit : ℕ → ℕ → Bool
has_bit mark b = not (bit_and b mark == 0)

abbrev pub NoneOf : (ℕ → Bool) → ℕ → ℕ → Type 0
NoneOf p low high = (k : ℕ) → low ≤ k → k < high → p k ≡ false

-- whether one from low up to high passes
abbrev pub Any : (ℕ → Bool) → ℕ → ℕ → Bool → Type 0
Any p low high true = (k : ℕ) × (low ≤ k) × (k < high) × (p k ≡ true)
Any p low high false = NoneOf p low high

abbrev pub FirstOf : (ℕ → Bool) → ℕ → ℕ → Option ℕ → Type 0
FirstOf p low high None = NoneOf p low high
FirstOf p low high (Some a) = (low ≤ a) × (a < high) × (p a ≡ true) × NoneOf p low a
