-- The rows of a device that has just been opened. Assumes nothing.
use Rattle.std.proofs.Common.{◌≡◌, ℕ, ◌-◌, ◌*◌, ◌<◌, ◌≤◌, List, [], get_or, take, drop, replicate, sym, refl, ap, ◌∙◌, arith}
use Rattle.device.specs.Layout.{row_in, rows_of}
use Rattle.device.specs.Proved.Rows.{length_rows, row_at_rows, rows_apart}
use Rattle.device.specs.Rows.{new_row}
use Rattle.std.proofs.lemmas.List.{drop-replicate, ext_get_or, get_or-replicate, length-replicate, take-replicate}
use Rattle.table.specs.Row.{blank}

pub rows_none : (ws ms : List ℕ) (k : ℕ) → rows_of ws ms k 0 ≡ []
unfolding rows_of
rows_none ws ms k = refl

-- n words of 0, m mark bytes of an empty row
pub rows_new : (n m k d : ℕ) → d * k ≤ n → d ≤ m → rows_of (replicate n 0) (replicate m 128) k d ≡ replicate d (new_row k)
rows_new n m k d worded marked = ext_get_or blank _ _
    (length_rows (replicate n 0) (replicate m 128) k d ∙ sym (length-replicate d (new_row k)))
    (λ r h. let lt : r < d = rw (length_rows (replicate n 0) (replicate m 128) k d) at h in
    row_at_rows (replicate n 0) (replicate m 128) k d r lt ∙ row r lt ∙ sym (get_or-replicate d r (new_row k) blank lt))
  where
    row : (r : ℕ) → r < d → row_in (replicate n 0) (replicate m 128) k r ≡ new_row k
    row r lt =
        let apart = rows_apart r d k lt in
        let words : ◌≡◌ {A = List ℕ} (take k (drop (r * k) (replicate n 0))) (replicate k 0) = ap (take {A = ℕ} k) (drop-replicate (r * k) n 0) ∙ take-replicate k (n - r * k) 0 (omega arith) in
        let byte : ◌≡◌ {A = ℕ} (get_or (replicate m 128) r 0) 128 = get_or-replicate m r 128 0 (omega arith) in
        rw (words, byte)
