-- What a table with no rows answers. Assumes nothing.
use Rattle.std.proofs.Common.{◌≡◌, ℕ, Bool, [], None, Err, refl, zero-le}
use Rattle.table.proofs.Checks.{cell_row, row_refused}
use Rattle.table.specs.Calls.{first, on_cell, on_row}
use Rattle.table.specs.Row.{Row}
use Rattle.table.specs.declared.faults.TableFault.TheVariants.{Row as NoRow}

pub first-vacant : (p : Row → Bool) (n : ℕ) → None ≡ first p [] n
unfolding first
first-vacant p n = refl

module _ {X : Type 0} where
  pub row_vacant : (r : ℕ) (x : X) → Err (NoRow r) ≡ on_row [] r x
  row_vacant r x = row_refused [] r x zero-le

  pub cell-vacant : (w r s : ℕ) (x : X) → Err (NoRow r) ≡ on_cell w [] r s x
  cell-vacant w r s x = cell_row w [] r s x zero-le
