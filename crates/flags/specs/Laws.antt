-- What a kind of flag is: a value worked out from a list of rows and the number of the first of
-- them, with a join and a flag that is nothing. Assumes nothing.
--   between   the rows of a list from one number up to another
--   Reaches   an end up to a row that is told, or any end where none is
--   Lasting   the flag of the rows from a up to b is also that of the rows up to any end, b or later,
--             that is reached
use Rattle.std.specs.Prelude.{◌≡◌, ℕ, ◌+◌, ◌-◌, ◌≤◌, List, [], ◌++◌, length, take, drop, None, Some, Option}
use Rattle.flags.specs.declared.kinds.Part.{Part}
use Rattle.table.specs.Row.{Row}

abbrev pub between : ℕ → ℕ → List Row → List Row
between a b rs = take (b - a) (drop a rs)

pub record Laws {K : Type 0} (flag : List Row → ℕ → K) (join : K → K → K) (none : K) : Type 0 where
  pub assoc : (x y z : K) → join (join x y) z ≡ join x (join y z)
  pub left : (x : K) → join none x ≡ x
  pub right : (x : K) → join x none ≡ x
  pub empty : (n : ℕ) → flag [] n ≡ none
  -- two lists put together, the second numbered on from the first
  pub split : (xs ys : List Row) (n : ℕ) → flag (xs ++ ys) n ≡ join (flag xs n) (flag ys (n + length xs))

abbrev pub Reaches : Option ℕ → ℕ → Type 0
Reaches None k = Unit {0}
Reaches (Some row) k = k ≤ row

pub record Lasting {K : Type 0} (flag : List Row → ℕ → K) (rs : List Row) (a b : ℕ) (part : Part K) : Type 0 where
  pub reached : Reaches part.until b
  pub same : (k : ℕ) → b ≤ k → Reaches part.until k → flag (between a k rs) a ≡ part.flag
