-- The first row behind an address, though an address is a number of 32 bits. Assumes nothing.
use Rattle.std.proofs.Common.{◌≡◌, ℕ, ◌+◌, ◌-◌, ◌^◌, ◌≤◌, min, Bool, List, length, None, Some, Option, MatchOption, ◌∙◌, arith}
use Rattle.processor.specs.Walks.{after}
use Rattle.table.proofs.Splits.{first_past}
use Rattle.table.specs.Calls.{first}
use Rattle.table.specs.Row.{Row}

module _ (p : Row → Bool) (rs : List Row) (few : length rs ≤ 262144) where
  -- past the last number of 32 bits there is no row
  first_next : (row : ℕ) → first p rs (min (row + 1) (2 ^ 32 - 1)) ≡ first p rs (row + 1)
  first_next row = grind (arith, first_past)

  -- the first row behind an address, from the answer to the question at the next number
  pub after_first : (address r : Option ℕ) → MatchOption address (r ≡ None) (λ row. r ≡ first p rs (min (row + 1) (2 ^ 32 - 1))) → r ≡ after p rs address
  after_first None r e = e
  after_first (Some row) r e = e ∙ first_next row
