-- What the calls of a table answer, on its width and its list of rows. Assumes nothing.
--   on_row, on_segment, on_cell   the answer of a call that names a row, a segment, or both: the row is
--                                 checked first; a refusal names what was asked for
--   granted                       what is there after a call: the new if it was granted, else the old
--   change                        one row of the list changed
--   first                         the smallest row, n or later, that passes a test, or none
use Rattle.std.specs.Prelude.{ℕ, zero, suc, Bool, cond, List, [], ◌∷◌, length, Some, None, Ok, Err, Option, Result, nat_lt, slice_index_or, slice_set}
use Rattle.std.specs.Option.{option_map}
use Rattle.table.specs.declared.faults.TableFault.{TableFault}
use Rattle.table.specs.declared.faults.TableFault.TheVariants.{Row as NoRow, Segment as NoSegment}
use Rattle.table.specs.declared.parts.Marks.{Marks}
use Rattle.table.specs.declared.parts.Shape.{Shape}
use Rattle.table.specs.Row.{Row, blank, word_in}

abbrev pub shape_of : ℕ → List Row → Shape
shape_of w rs = record { width = w; depth = length rs }

unfoldable pub on_segment : {X : Type 0} → ℕ → ℕ → X → Result X TableFault
on_segment w s x = cond (nat_lt s w) (Ok x) (Err (NoSegment s))

unfoldable pub on_row : {X : Type 0} → List Row → ℕ → X → Result X TableFault
on_row rs r x = cond (nat_lt r (length rs)) (Ok x) (Err (NoRow r))

unfoldable pub on_cell : {X : Type 0} → ℕ → List Row → ℕ → ℕ → X → Result X TableFault
on_cell w rs r s x = cond (nat_lt r (length rs)) (on_segment w s x) (Err (NoRow r))

abbrev pub granted : {X Y F : Type 0} → Result Y F → X → X → X
granted (Ok y) new old = new
granted (Err e) new old = old

abbrev pub row_at : List Row → ℕ → Row
row_at rs r = slice_index_or rs r blank

abbrev pub word_at : List Row → ℕ → ℕ → ℕ
word_at rs r s = word_in (row_at rs r) s

abbrev pub marks_at : List Row → ℕ → Marks
marks_at rs r = (row_at rs r).marks

unfoldable pub change : ℕ → (Row → Row) → List Row → List Row
change r f rs = slice_set rs r (f (row_at rs r))

unfoldable pub first : (Row → Bool) → List Row → ℕ → Option ℕ
first p [] n = None
first p (row ∷ rs) zero = cond (p row) (Some zero) (option_map suc (first p rs zero))
first p (row ∷ rs) (suc n) = option_map suc (first p rs n)
