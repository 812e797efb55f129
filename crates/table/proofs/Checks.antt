-- What a call that names a row or a segment answers, granted and refused. Assumes nothing.
use Rattle.std.proofs.Common.{◌≡◌, ℕ, ◌<◌, ◌≤◌, List, length, Ok, Err}
use Rattle.std.proofs.lemmas.Bool.{lt-ltb, le-ltb}
use Rattle.table.specs.Calls.{on_cell, on_row, on_segment}
use Rattle.table.specs.Row.{Row}
use Rattle.table.specs.declared.faults.TableFault.TheVariants.{Row as NoRow, Segment as NoSegment}

module _ {X : Type 0} where
  pub segment_granted : (w s : ℕ) (x : X) → s < w → Ok x ≡ on_segment w s x
  unfolding on_segment
  segment_granted w s x h = rw (lt-ltb s w h)

  pub segment_refused : (w s : ℕ) (x : X) → w ≤ s → Err (NoSegment s) ≡ on_segment w s x
  unfolding on_segment
  segment_refused w s x h = rw (le-ltb s w h)

  pub row_granted : (rs : List Row) (r : ℕ) (x : X) → r < length rs → Ok x ≡ on_row rs r x
  unfolding on_row
  row_granted rs r x h = rw (lt-ltb r (length rs) h)

  pub row_refused : (rs : List Row) (r : ℕ) (x : X) → length rs ≤ r → Err (NoRow r) ≡ on_row rs r x
  unfolding on_row
  row_refused rs r x h = rw (le-ltb r (length rs) h)

  pub cell-granted : (w : ℕ) (rs : List Row) (r s : ℕ) (x : X) → r < length rs → s < w → Ok x ≡ on_cell w rs r s x
  unfolding on_cell
  cell-granted w rs r s x h k = rw (lt-ltb r (length rs) h) (segment_granted w s x k)

  pub cell_row : (w : ℕ) (rs : List Row) (r s : ℕ) (x : X) → length rs ≤ r → Err (NoRow r) ≡ on_cell w rs r s x
  unfolding on_cell
  cell_row w rs r s x h = rw (le-ltb r (length rs) h)

  pub cell_segment : (w : ℕ) (rs : List Row) (r s : ℕ) (x : X) → r < length rs → w ≤ s → Err (NoSegment s) ≡ on_cell w rs r s x
  unfolding on_cell
  cell_segment w rs r s x h k = rw (lt-ltb r (length rs) h) (segment_refused w s x k)
