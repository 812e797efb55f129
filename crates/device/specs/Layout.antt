-- How rows lie in words and mark bytes. Assumes nothing.
--   marks_of, byte_of   a mark byte has bit 7 for empty, bit 6 for access, bit 5 for hit, 0 elsewhere
--   proper              a byte that stands for marks, and not for an empty row with a hit
--   rows_of             the d rows of width k in words ws and mark bytes ms
use Rattle.std.specs.Prelude.{ℕ, ◌*◌, Bool, cond, not, ◌&&◌, List, map, take, drop, ◌==◌, bit_and, bit_or, slice_index}
use Rattle.std.specs.List.{range_with_len}
use Rattle.table.specs.Row.{Row}
use Rattle.table.specs.declared.parts.Marks.{Marks}

abbrev pub marks_of : ℕ → Marks
marks_of b = record {
  empty = not (bit_and b 128 == 0);
  access = not (bit_and b 64 == 0);
  hit = not (bit_and b 32 == 0);
}

abbrev pub byte_of : Marks → ℕ
byte_of m = bit_or (bit_or (cond m.empty 128 0) (cond m.access 64 0)) (cond m.hit 32 0)

abbrev pub proper : ℕ → Bool
proper b = b == byte_of (marks_of b) && not ((marks_of b).empty && (marks_of b).hit)

abbrev pub row_in : List ℕ → List ℕ → ℕ → ℕ → Row
row_in ws ms k r = record { words = take k (drop (r * k) ws); marks = marks_of (slice_index ms r) }

unfoldable pub rows_of : List ℕ → List ℕ → ℕ → ℕ → List Row
rows_of ws ms k d = map (row_in ws ms k) (range_with_len 0 d)
