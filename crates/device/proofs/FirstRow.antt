-- The first row with a mark, from the mark bytes. Assumes nothing.
use Rattle.std.proofs.Common.{◌≡◌, ℕ, ◌<◌, ◌≤◌, Bool, false, List, get_or, Some, None, Option, ap, ◌∙◌, arith}
use Rattle.device.specs.Halves.{FirstOf, NoneOf, has_bit}
use Rattle.device.specs.Layout.{row_in, rows_of}
use Rattle.device.specs.Proved.Rows.{length_rows, row_at_rows}
use Rattle.table.proofs.First.{first_from_least}
use Rattle.table.specs.Calls.{first, row_at}
use Rattle.table.specs.Laws.{Least}
use Rattle.table.specs.Row.{Row}

module _ (ws ms : List ℕ) (k d : ℕ) (p : Row → Bool) (mark : ℕ) (means : (r : ℕ) → p (row_in ws ms k r) ≡ has_bit mark (get_or ms r 0)) where
  row_means : (r : ℕ) → r < d → p (row_at (rows_of ws ms k d) r) ≡ has_bit mark (get_or ms r 0)
  row_means r lt = ap p (row_at_rows ws ms k d r lt) ∙ means r

  none_rows : (n b : ℕ) → b ≤ d → NoneOf (λ r. has_bit mark (get_or ms r 0)) n b → (r : ℕ) → n ≤ r → r < b → p (row_at (rows_of ws ms k d) r) ≡ false
  none_rows n b le none r from lt = row_means r (omega arith) ∙ none r from lt

  least_rows : (n : ℕ) (r : Option ℕ) → FirstOf (λ r. has_bit mark (get_or ms r 0)) n d r → Least p (rows_of ws ms k d) n r
  least_rows n None none = rw (length_rows ws ms k d) (none_rows n d (omega arith) none)
  least_rows n (Some a) f =
      (f.0, rw (length_rows ws ms k d) f.1, row_means a f.1 ∙ f.2, none_rows n a (omega arith) f.3)

  pub first_rows : (n : ℕ) (r : Option ℕ) → FirstOf (λ r. has_bit mark (get_or ms r 0)) n d r → r ≡ first p (rows_of ws ms k d) n
  first_rows n r f = first_from_least p (rows_of ws ms k d) n r (least_rows n r f)
