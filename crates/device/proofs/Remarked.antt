-- A device after the marks of its rows changed, and what lies past them stayed. Assumes nothing.
use Rattle.std.proofs.Common.{◌≡◌, ℕ, ◌*◌, ◌<◌, true, false, ◌&&◌, List, ◌++◌, map, length, get_or, take, drop, ◌∙◌, arith}
use Rattle.device.specs.Layout.{byte_of, proper, row_in, rows_of}
use Rattle.device.specs.Proved.Marks.{marks_of-byte_of, proper-byte_of}
use Rattle.device.specs.Proved.Rows.{rows_map}
use Rattle.std.proofs.lemmas.List.{drop_at, get_or_append_left}
use Rattle.table.specs.Row.{Row}
use Rattle.table.specs.declared.parts.Marks.{Marks}

-- ms are the mark bytes before, xs those of the d rows after
module _ (ms xs : List ℕ) (d : ℕ) (size : length xs ≡ d) where
  byte : (r : ℕ) (m : Marks) → r < d → get_or xs r 0 ≡ byte_of m → get_or (xs ++ drop d ms) r 0 ≡ byte_of m
  byte r m lt e = get_or_append_left xs (drop d ms) 0 r (omega arith) ∙ e

  pub drop-remarked : drop d (xs ++ drop d ms) ≡ drop d ms
  drop-remarked = drop_at xs (drop d ms) d size

  pub tidy_remarked : ((r : ℕ) → r < d → (m : Marks) × (get_or xs r 0 ≡ byte_of m) × ((m.empty && m.hit) ≡ false))
      → (r : ℕ) → r < d → proper (get_or (xs ++ drop d ms) r 0) ≡ true
  tidy_remarked each r lt = let (m, e, quiet) = each r lt in rw (byte r m lt e) (proper-byte_of m quiet)

  pub rows_remarked : (ws : List ℕ) (k : ℕ) (g : Row → Row)
      → ((r : ℕ) → r < d → (m : Marks) × (get_or xs r 0 ≡ byte_of m) × (record { words = take k (drop (r * k) ws); marks = m } ≡ g (row_in ws ms k r)))
      → rows_of ws (xs ++ drop d ms) k d ≡ map g (rows_of ws ms k d)
  rows_remarked ws k g each = rows_map ws ms ws (xs ++ drop d ms) k d g
      (λ r lt. let (m, e, row) = each r lt in rw (byte r m lt e, marks_of-byte_of m) row)
