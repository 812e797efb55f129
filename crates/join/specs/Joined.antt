-- The rows of a join, and where one of them lies. Assumes nothing.
--   cut_row     a row with its first w words only; its marks stay
--   Uncut       a test that looks at no word that a cut takes away
--   join_rows   the upper rows, then the lower rows, each cut to w words, and the first n of them
--   joined_width, joined_rows
--               a join's width and rows, from what the two kinds of table, u and l, mean as tables
--   seat_of     the table that holds row r, and r's number there, if the upper has d rows
--   within      a row's number if it is below n, else none
use Rattle.std.specs.Prelude.{◌≡◌, ℕ, ◌-◌, min, Bool, cond, List, ◌++◌, map, take, Some, None, Option, nat_lt}
use Rattle.table.specs.Row.{Row}
use Rattle.table.specs.declared.tables.Table.{Ghosts}
use Rattle.join.specs.declared.joins.Join.{Join}
use Rattle.join.specs.declared.joins.Seat.{Seat}
use Rattle.join.specs.declared.joins.Seat.TheVariants.{Upper, Lower}

abbrev pub cut_row : ℕ → Row → Row
cut_row w row = record { words = take w row.words; marks = row.marks }

abbrev pub Uncut : (Row → Bool) → Type 0
Uncut p = (w : ℕ) (row : Row) → p (cut_row w row) ≡ p row

unfoldable pub join_rows : ℕ → ℕ → List Row → List Row → List Row
join_rows n w us ls = take n (map (cut_row w) (us ++ ls))

module _ {U L : Type 0} (u : Ghosts U) (l : Ghosts L) where
  abbrev pub joined_width : Join U L → ℕ
  joined_width j = min (u.width j.upper) (l.width j.lower)

  abbrev pub joined_rows : Join U L → List Row
  joined_rows j = join_rows 262144 (joined_width j) (u.rows j.upper) (l.rows j.lower)

abbrev pub seat_of : ℕ → ℕ → Seat
seat_of d r = cond (nat_lt r d) (Upper r) (Lower (r - d))

abbrev pub within : ℕ → Option ℕ → Option ℕ
within n None = None
within n (Some r) = cond (nat_lt r n) (Some r) None
