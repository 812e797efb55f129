-- What an answer tells of the row and the segment that were asked for: granted or refused. Assumes nothing.
use Rattle.std.proofs.Common.{◌≡◌, ℕ, ◌<◌, ◌≤◌, List, length, Ok, Err, arith}
use Rattle.std.proofs.lemmas.Bool.Decides.{nat_tests}
use Rattle.table.specs.Calls.{on_cell, on_row, on_segment}
use Rattle.table.specs.Row.{Row}
use Rattle.table.specs.declared.faults.TableFault.{TableFault}
use Rattle.table.specs.declared.faults.TableFault.TheVariants.{Row as NoRow, Segment as NoSegment}

module _ {X : Type 0} where
  pub row_told : (rs : List Row) (r : ℕ) (x y : X) → Ok y ≡ on_row rs r x → (r < length rs) × (y ≡ x)
  unfolding on_row
  row_told rs r x y e = (grind (arith, nat_tests), grind (arith, nat_tests))

  pub segment_told : (w s : ℕ) (x y : X) → Ok y ≡ on_segment w s x → (s < w) × (y ≡ x)
  unfolding on_segment
  segment_told w s x y e = (grind (arith, nat_tests), grind (arith, nat_tests))

  pub cell-told : (w : ℕ) (rs : List Row) (r s : ℕ) (x y : X) → Ok y ≡ on_cell w rs r s x → (r < length rs) × (s < w) × (y ≡ x)
  unfolding on_cell on_segment
  cell-told w rs r s x y e = (grind (arith, nat_tests), grind (arith, nat_tests), grind (arith, nat_tests))

  pub row_refused_told : (rs : List Row) (r : ℕ) (x : X) (e : TableFault) → Err e ≡ on_row rs r x → (length rs ≤ r) × (e ≡ NoRow r)
  unfolding on_row
  row_refused_told rs r x e h = (grind (arith, nat_tests), grind (arith, nat_tests))

  pub segment_refused_told : (w s : ℕ) (x : X) (e : TableFault) → Err e ≡ on_segment w s x → (w ≤ s) × (e ≡ NoSegment s)
  unfolding on_segment
  segment_refused_told w s x e h = (grind (arith, nat_tests), grind (arith, nat_tests))
