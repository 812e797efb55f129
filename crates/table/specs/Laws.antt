-- What every table keeps. Assumes nothing.
use Rattle.std.specs.Prelude.{◌≡◌, ℕ, ◌<◌, ◌≤◌, Bool, true, false, ◌&&◌, List, length, Some, None, Option}
use Rattle.std.specs.List.{AllByRecursion}
use Rattle.table.specs.Calls.{row_at}
use Rattle.table.specs.Row.{Row, is_empty, is_hit}

-- a row has a word for each segment, and never the hit mark while it is empty
pub record SoundRow (w : ℕ) (row : Row) : Type 0 where
  pub wide : length row.words ≡ w
  pub quiet : (is_empty row && is_hit row) ≡ false

-- one to eight segments, at most 262,144 rows, every row sound
pub record Sound (w : ℕ) (rs : List Row) : Type 0 where
  pub some : 1 ≤ w
  pub narrow : w ≤ 8
  pub few : length rs ≤ 262144
  pub each : AllByRecursion (SoundRow w) rs

-- r names the smallest row, n or later, that passes the test p; none passes if it names none
abbrev pub Least : (Row → Bool) → List Row → ℕ → Option ℕ → Type 0
Least p rs n None = (k : ℕ) → n ≤ k → k < length rs → p (row_at rs k) ≡ false
Least p rs n (Some a) = (n ≤ a) × (a < length rs) × (p (row_at rs a) ≡ true) × ((k : ℕ) → n ≤ k → k < a → p (row_at rs k) ≡ false)
