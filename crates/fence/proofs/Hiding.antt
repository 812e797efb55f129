-- How each call's meaning goes through a fence. Assumes nothing.
use Rattle.std.proofs.Common.{◌≡◌, ℕ, ◌+◌, ◌-◌, ◌<◌, ◌≤◌, min, Bool, ◌⊎◌, List, map, length, Ok, Err, Option, Result, sym, ap, ◌∙◌, inl, inr, arith}
use Rattle.std.proofs.lemmas.List.{drop-map, get_or-drop, length-drop}
use Rattle.std.proofs.lemmas.Bool.{cases_lt}
use Rattle.std.proofs.lemmas.Bool.Decides.{nat_tests}
use Rattle.std.specs.Option.{option_map}
use Rattle.table.proofs.Splits.{change-drop, first-drop, first_past}
use Rattle.table.specs.Calls.{change, first, granted, marks_at, on_cell, on_row, on_segment, row_at, word_at}
use Rattle.table.specs.Row.{Row, blank, word_in}
use Rattle.fence.specs.Shown.{shown}

module _ (f : ℕ) (rs : List Row) where
  pub length-shown : length (shown f rs) ≡ length rs - f
  unfolding shown
  length-shown = length-drop f rs

  pub row_at-shown : (r : ℕ) → row_at (shown f rs) r ≡ row_at rs (f + r)
  unfolding shown
  row_at-shown r = get_or-drop f rs r blank

  pub shown-map : (g : Row → Row) → shown f (map g rs) ≡ map g (shown f rs)
  unfolding shown
  shown-map g = drop-map g f rs

  pub shown-change : (g : Row → Row) (r : ℕ) → shown f (change (f + r) g rs) ≡ change r g (shown f rs)
  unfolding shown
  shown-change g r = sym (change-drop g f rs r)

  -- what the fence grants, the table grants
  pub cell-shown : {X : Type 0} (w r s : ℕ) (x : X) → r < length (shown f rs) → s < w → on_cell w rs (f + r) s x ≡ on_cell w (shown f rs) r s x
  unfolding on_cell on_segment
  cell-shown w r s x h k = let e = length-shown in grind (arith, nat_tests)

  pub row_shown : {X : Type 0} (r : ℕ) (x : X) → r < length (shown f rs) → on_row rs (f + r) x ≡ on_row (shown f rs) r x
  unfolding on_row
  row_shown r x h = let e = length-shown in grind (arith, nat_tests)

  pub read_shown : (w r s : ℕ) → r < length (shown f rs) → s < w → on_cell w rs (f + r) s (word_at rs (f + r) s) ≡ on_cell w (shown f rs) r s (word_at (shown f rs) r s)
  read_shown w r s h k = cell-shown w r s (word_at rs (f + r) s) h k ∙ ap (on_cell w (shown f rs) r s) (sym (ap (λ row. word_in row s) (row_at-shown r)))

  pub marks_shown : (r : ℕ) → r < length (shown f rs) → on_row rs (f + r) (marks_at rs (f + r)) ≡ on_row (shown f rs) r (marks_at (shown f rs) r)
  marks_shown r h = row_shown r (marks_at rs (f + r)) h ∙ ap (on_row (shown f rs) r) (sym (ap (λ row. row.marks) (row_at-shown r)))

  -- the rows after a call, granted or refused
  pub granted-change : {Y F : Type 0} (a : Result Y F) (new : List Row) (g : Row → Row) (r : ℕ)
      → new ≡ granted a (change (f + r) g rs) rs → shown f new ≡ granted a (change r g (shown f rs)) (shown f rs)
  granted-change (Ok y) new g r e = rw e (shown-change g r)
  granted-change (Err x) new g r e = rw e

  pub granted-map : {Y F : Type 0} (a : Result Y F) (new : List Row) (g : Row → Row)
      → new ≡ granted a (map g rs) rs → shown f new ≡ granted a (map g (shown f rs)) (shown f rs)
  granted-map (Ok y) new g e = rw e (shown-map g)
  granted-map (Err x) new g e = rw e

  -- past every row there is no first one, so the sum of the places may stop at any such m
  stopped : (p : Row → Bool) (i m : ℕ) → length rs ≤ m → first p rs (min (i + f) m) ≡ first p rs (f + i)
  stopped p i m h = by_order (cases_lt (i + f) m)
    where
      by_order : (i + f < m) ⊎ (m ≤ i + f) → first p rs (min (i + f) m) ≡ first p rs (f + i)
      by_order (inl lt) = let e : min (i + f) m ≡ f + i = omega arith in rw e
      by_order (inr le) = let e : min (i + f) m ≡ m = omega arith in rw e (first_past p rs m h ∙ sym (first_past p rs (f + i) (omega arith)))

  pub first-shown : (p : Row → Bool) (i m from : ℕ) (found r : Option ℕ) → length rs ≤ m
      → from ≡ min (i + f) m → found ≡ first p rs from → r ≡ option_map (λ k. k - f) found → r ≡ first p (shown f rs) i
  unfolding shown
  first-shown p i m from found r h at got out = out ∙ rw (got, at, stopped p i m h) (sym (first-drop p f rs i))
