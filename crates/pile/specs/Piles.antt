-- Two tables joined behind a fence: its width, the rows that it shows, and what a call keeps, from
-- the members a and b that the two kinds of table have as tables. Assumes nothing.
use Rattle.std.specs.Prelude.{◌≡◌, ℕ, List}
use Rattle.fence.specs.Shown.{shown}
use Rattle.fence.specs.declared.fences.Fence.{Fence}
use Rattle.join.specs.Joined.{joined_rows, joined_width}
use Rattle.join.specs.declared.joins.Join.{Join}
use Rattle.table.specs.Row.{Row}
use Rattle.table.specs.declared.tables.Table.{Ghosts}

module _ {A B : Type 0} (a : Ghosts A) (b : Ghosts B) where
  abbrev pub pair_width : Fence (Join A B) → ℕ
  pair_width p = joined_width a b p.table

  abbrev pub pair_rows : Fence (Join A B) → List Row
  pair_rows p = shown p.hidden (joined_rows a b p.table)

  abbrev pub PairFrame : Fence (Join A B) → Fence (Join A B) → Type 0
  PairFrame p q = (q.hidden ≡ p.hidden) × (a.frame p.table.upper q.table.upper × b.frame p.table.lower q.table.lower)
