-- A refusal does not depend on what would have been answered. Assumes nothing.
use Rattle.std.proofs.Common.{◌≡◌, ℕ, Bool, true, false, cond, ltb, List, length, Ok, Err, ap, arith}
use Rattle.table.specs.Calls.{on_cell, on_row, on_segment}
use Rattle.table.specs.Row.{Row}
use Rattle.table.specs.declared.faults.TableFault.{TableFault}
use Rattle.table.specs.declared.faults.TableFault.TheVariants.{Row as NoRow, Segment as NoSegment}

module _ {X Y : Type 0} (e : TableFault) (x : X) (y : Y) where
  checked : (b : Bool) (f : TableFault) → Err e ≡ cond b (Ok x) (Err f) → Err e ≡ cond b (Ok y) (Err f)
  checked true f h = let z : ◌≡◌ {A = ℕ} 0 1 = cc in absurd (omega arith)
  checked false f h = let same : e ≡ f = cc in ap Err same

  pub segment_alike : (w s : ℕ) → Err e ≡ on_segment w s x → Err e ≡ on_segment w s y
  unfolding on_segment
  segment_alike w s h = checked (ltb s w) (NoSegment s) h

  pub row_alike : (rs : List Row) (r : ℕ) → Err e ≡ on_row rs r x → Err e ≡ on_row rs r y
  unfolding on_row
  row_alike rs r h = checked (ltb r (length rs)) (NoRow r) h

  pub cell_alike : (w : ℕ) (rs : List Row) (r s : ℕ) → Err e ≡ on_cell w rs r s x → Err e ≡ on_cell w rs r s y
  unfolding on_cell
  cell_alike w rs r s h = at (ltb r (length rs)) h
    where
      at : (b : Bool) → Err e ≡ cond b (on_segment w s x) (Err (NoRow r)) → Err e ≡ cond b (on_segment w s y) (Err (NoRow r))
      at true k = segment_alike w s k
      at false k = let same : e ≡ NoRow r = cc in ap Err same

  -- a row that is refused is refused with any segment
  pub cell-row_alike : (w : ℕ) (rs : List Row) (r s : ℕ) → Err e ≡ on_row rs r x → Err e ≡ on_cell w rs r s y
  unfolding on_row on_cell
  cell-row_alike w rs r s h = at (ltb r (length rs)) h
    where
      at : (b : Bool) → Err e ≡ cond b (Ok x) (Err (NoRow r)) → Err e ≡ cond b (on_segment w s y) (Err (NoRow r))
      at true k = let z : ◌≡◌ {A = ℕ} 0 1 = cc in absurd (omega arith)
      at false k = let same : e ≡ NoRow r = cc in ap Err same
