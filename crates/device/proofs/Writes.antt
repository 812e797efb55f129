-- The rows of a device after one word and one mark byte are stored. Assumes nothing.
use Rattle.std.proofs.Common.{◌≡◌, ℕ, ◌+◌, ◌-◌, ◌*◌, ◌<◌, ◌≤◌, true, false, ◌&&◌, ◌≢◌, ◌⊎◌, List, length, get_or, take, drop, set, ap, ◌∙◌, inl, inr, arith}
use lib.Seq.{take-set-lt}
use Rattle.device.specs.Proved.Marks.{marks_of-byte_of, proper-byte_of}
use Rattle.device.specs.Proved.Rows.{rows_apart, rows_change}
use Rattle.device.specs.Layout.{byte_of, marks_of, proper, row_in, rows_of}
use Rattle.std.proofs.lemmas.List.{drop-set-add, drop-set-lt, get_or-set_other, get_or-set_same, take-set-le}
use Rattle.std.proofs.lemmas.Bool.{cases_eq, cases_order}
use Rattle.table.specs.Calls.{change}
use Rattle.table.specs.Row.{Row}
use Rattle.table.specs.declared.parts.Marks.{Marks}

words_here : (ws : List ℕ) (k r s v : ℕ) → s < k → take k (drop (r * k) (set ws (r * k + s) v)) ≡ set (take k (drop (r * k) ws)) s v
words_here ws k r s v in_row = ap (take k) (drop-set-add (r * k) ws s v) ∙ take-set-lt k (drop (r * k) ws) s v in_row

words_other : (ws : List ℕ) (k r s v j : ℕ) → s < k → j ≢ r → take k (drop (j * k) (set ws (r * k + s) v)) ≡ take k (drop (j * k) ws)
words_other ws k r s v j in_row ne = at (cases_order j r)
  where
    at : (j ≡ r) ⊎ ((j < r) ⊎ (r < j)) → take k (drop (j * k) (set ws (r * k + s) v)) ≡ take k (drop (j * k) ws)
    at (inl e) = absurd (ne e)
    at (inr (inl lt)) =
        let far = rows_apart j r k lt in
        let place : r * k + s ≡ j * k + (r * k + s - j * k) = omega arith in
        rw place (ap (take k) (drop-set-add (j * k) ws (r * k + s - j * k) v)
        ∙ take-set-le k (drop (j * k) ws) (r * k + s - j * k) v (omega arith))
    at (inr (inr lt)) =
        let far = rows_apart r j k lt in
        ap (take k) (drop-set-lt (j * k) ws (r * k + s) v (omega arith))

-- the marks of a row are stored whole
module _ (ms : List ℕ) (d r : ℕ) (m : Marks) (held : d ≤ length ms) (within : r < d) where
  marks_here : marks_of (get_or (set ms r (byte_of m)) r 0) ≡ m
  marks_here = let lt : r < length ms = omega arith in rw get_or-set_same (marks_of-byte_of m)

  pub tidy_set : (m.empty && m.hit) ≡ false → ((j : ℕ) → j < d → proper (get_or ms j 0) ≡ true)
      → (j : ℕ) → j < d → proper (get_or (set ms r (byte_of m)) j 0) ≡ true
  tidy_set quiet tidy j lt = at (cases_eq j r)
    where
      at : (j ≡ r) ⊎ (j ≡ r → ⊥) → proper (get_or (set ms r (byte_of m)) j 0) ≡ true
      at (inl e) = let low : r < length ms = omega arith in rw (e, get_or-set_same) (proper-byte_of m quiet)
      at (inr ne) = rw (get_or-set_other ms r j (byte_of m) 0 ne) (tidy j lt)

  -- the row's marks alone
  pub rows_marked : (ws : List ℕ) (k : ℕ) (f : Row → Row) → record { words = take k (drop (r * k) ws); marks = m } ≡ f (row_in ws ms k r)
      → rows_of ws (set ms r (byte_of m)) k d ≡ change r f (rows_of ws ms k d)
  rows_marked ws k f e = rows_change ws ms ws (set ms r (byte_of m)) k d f r within
      (rw marks_here e)
      (λ j lt ne. rw (get_or-set_other ms r j (byte_of m) 0 ne))

  -- a word and the marks
  pub rows_written : (ws : List ℕ) (k s v : ℕ) (f : Row → Row) → s < k → record { words = set (take k (drop (r * k) ws)) s v; marks = m } ≡ f (row_in ws ms k r)
      → rows_of (set ws (r * k + s) v) (set ms r (byte_of m)) k d ≡ change r f (rows_of ws ms k d)
  rows_written ws k s v f in_row e = rows_change ws ms (set ws (r * k + s) v) (set ms r (byte_of m)) k d f r within
      (rw (marks_here, words_here ws k r s v in_row) e)
      (λ j lt ne. rw (get_or-set_other ms r j (byte_of m) 0 ne, words_other ws k r s v j in_row ne))
