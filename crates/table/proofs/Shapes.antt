-- What the check of a row or a segment against a shape tells of a table that has the shape. Assumes nothing.
use Rattle.std.proofs.Common.{◌≡◌, ℕ, List, length, Result, sym, ap}
use Rattle.table.specs.Calls.{on_cell, on_row, on_segment, shape_of}
use Rattle.table.specs.Row.{Row}
use Rattle.table.specs.declared.faults.TableFault.{TableFault}
use Rattle.table.specs.declared.parts.Shape.{Shape}

module _ {X : Type 0} (s : Shape) (w : ℕ) (rs : List Row) (shaped : s ≡ shape_of w rs) (a : Result X TableFault) (x : X) where
  depth_shaped : length rs ≡ s.depth
  depth_shaped = sym (ap (λ (t : Shape). t.depth) shaped)

  pub row_shaped : (r : ℕ) → ((rows : List Row) → length rows ≡ s.depth → a ≡ on_row rows r x) → a ≡ on_row rs r x
  row_shaped r checked = checked rs depth_shaped

  pub segment_shaped : (k : ℕ) → a ≡ on_segment s.width k x → a ≡ on_segment w k x
  segment_shaped k checked = rw (← ap (λ (t : Shape). t.width) shaped) checked

  pub cell_shaped : (r k : ℕ) → ((rows : List Row) → length rows ≡ s.depth → a ≡ on_cell s.width rows r k x) → a ≡ on_cell w rs r k x
  cell_shaped r k checked = rw (← ap (λ (t : Shape). t.width) shaped) (checked rs depth_shaped)
