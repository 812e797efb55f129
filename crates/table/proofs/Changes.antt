-- One row changed. Assumes nothing.
use Rattle.std.proofs.Common.{◌≡◌, ℕ, ◌<◌, ◌≢◌, List, length}
use Rattle.std.proofs.lemmas.List.{length-set, get_or-set_same, get_or-set_other}
use Rattle.table.specs.Calls.{change, row_at}
use Rattle.table.specs.Row.{Row, blank}

module _ (f : Row → Row) (rs : List Row) (r : ℕ) where
  pub length-change : length (change r f rs) ≡ length rs
  unfolding change
  length-change = length-set rs r (f (row_at rs r))

  pub row_at-change_same : r < length rs → row_at (change r f rs) r ≡ f (row_at rs r)
  unfolding change
  row_at-change_same h = get_or-set_same rs r (f (row_at rs r)) blank h

  pub row_at-change_other : (k : ℕ) → k ≢ r → row_at (change r f rs) k ≡ row_at rs k
  unfolding change
  row_at-change_other k h = get_or-set_other rs r k (f (row_at rs r)) blank h
