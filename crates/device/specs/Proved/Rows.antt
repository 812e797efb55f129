-- The rows of a device after a change of its memory. Assumes nothing.
use Rattle.std.specs.Prelude.{◌≡◌, ℕ, suc, ◌+◌, ◌*◌, ◌<◌, ◌≤◌, ◌≢◌, ◌⊎◌, List, map, length, drop, Ok, slice_index}
use Rattle.std.proofs.Common.{inl, inr, sym, ap, ◌∙◌, suc-mul, arith}
use Rattle.device.specs.Layout.{marks_of, row_in, rows_of}
use Rattle.std.proofs.lemmas.Nat.{mul-le}
use Rattle.std.proofs.lemmas.List.FromFn.{length-map-range_with_len, get_or-map-range_with_len}
use Rattle.std.proofs.lemmas.List.{ext_get_or, get_or-drop, get_or-map, get_or-take, length-map}
use Rattle.std.proofs.lemmas.Bool.{cases_eq}
use Rattle.table.proofs.Checks.{cell-granted, row_granted}
use Rattle.table.proofs.Changes.{length-change, row_at-change_same, row_at-change_other}
use Rattle.table.specs.Calls.{change, marks_at, on_cell, on_row, row_at, word_at}
use Rattle.table.specs.Row.{Row, blank, word_in}

pub length_rows : (ws ms : List ℕ) (k d : ℕ) → length (rows_of ws ms k d) ≡ d
unfolding rows_of
length_rows ws ms k d = length-map-range_with_len (row_in ws ms k) 0 d

pub row_at_rows : (ws ms : List ℕ) (k d r : ℕ) → r < d → row_at (rows_of ws ms k d) r ≡ row_in ws ms k r
unfolding rows_of
row_at_rows ws ms k d r h = get_or-map-range_with_len (row_in ws ms k) 0 d r r blank h (omega arith)

pub word_at_rows : (ws ms : List ℕ) (k d r s : ℕ) → r < d → s < k → word_at (rows_of ws ms k d) r s ≡ slice_index ws (r * k + s)
word_at_rows ws ms k d r s h in_row =
    ap (λ row. word_in row s) (row_at_rows ws ms k d r h) ∙ get_or-take k (drop (r * k) ws) s 0 in_row ∙ get_or-drop (r * k) ws s 0

pub marks_at_rows : (ws ms : List ℕ) (k d r : ℕ) → r < d → marks_at (rows_of ws ms k d) r ≡ marks_of (slice_index ms r)
marks_at_rows ws ms k d r h = ap (λ row. row.marks) (row_at_rows ws ms k d r h)

-- a row lies wholly before or behind another
pub rows_apart : (j r k : ℕ) → j < r → j * k + k ≤ r * k
rows_apart j r k h = let e = suc-mul j k in omega (arith, mul-le (suc j) k r k (omega arith) (omega arith))

-- the checks of a row and a segment
module _ {X : Type 0} (ws ms : List ℕ) (k d r : ℕ) where
  pub line-granted : (x : X) → r < d → Ok x ≡ on_row (rows_of ws ms k d) r x
  line-granted x h = row_granted (rows_of ws ms k d) r x (rw (length_rows ws ms k d) h)

  pub place_granted : (s : ℕ) (x : X) → r < d → s < k → Ok x ≡ on_cell k (rows_of ws ms k d) r s x
  place_granted s x h in_row = cell-granted k (rows_of ws ms k d) r s x (rw (length_rows ws ms k d) h) in_row

-- the memory before is ws and ms, and after it vs and ns
module _ (ws ms vs ns : List ℕ) (k d : ℕ) where
  -- every row changed alike
  pub rows_map : (g : Row → Row) → ((r : ℕ) → r < d → row_in vs ns k r ≡ g (row_in ws ms k r)) → rows_of vs ns k d ≡ map g (rows_of ws ms k d)
  rows_map g each = ext_get_or blank _ _
      (length_rows vs ns k d ∙ sym (length-map (rows_of ws ms k d) g ∙ length_rows ws ms k d))
      (λ r h. let lt : r < d = rw (length_rows vs ns k d) at h in
      let low : r < length (rows_of ws ms k d) = rw (length_rows ws ms k d) lt in
      row_at_rows vs ns k d r lt ∙ each r lt ∙ ap g (sym (row_at_rows ws ms k d r lt))
      ∙ sym (get_or-map g (rows_of ws ms k d) r blank blank low))

  -- one row changed
  pub rows_change : (f : Row → Row) (r : ℕ) → r < d → row_in vs ns k r ≡ f (row_in ws ms k r)
      → ((j : ℕ) → j < d → j ≢ r → row_in vs ns k j ≡ row_in ws ms k j) → rows_of vs ns k d ≡ change r f (rows_of ws ms k d)
  rows_change f r within here others = ext_get_or blank _ _
      (length_rows vs ns k d ∙ sym (length-change f (rows_of ws ms k d) r ∙ length_rows ws ms k d))
      (λ j h. let lt : j < d = rw (length_rows vs ns k d) at h in
      row_at_rows vs ns k d j lt ∙ at j lt (cases_eq j r))
    where
      at : (j : ℕ) → j < d → (j ≡ r) ⊎ (j ≢ r) → row_in vs ns k j ≡ row_at (change r f (rows_of ws ms k d)) j
      at j lt (inl e) =
          let low : r < length (rows_of ws ms k d) = rw (length_rows ws ms k d) within in
          rw e (here ∙ ap f (sym (row_at_rows ws ms k d r within)) ∙ sym (row_at-change_same f (rows_of ws ms k d) r low))
      at j lt (inr ne) =
          others j lt ne ∙ sym (row_at_rows ws ms k d j lt) ∙ sym (row_at-change_other f (rows_of ws ms k d) r j ne)
