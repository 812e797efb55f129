-- The rows that the memory holds, and the memory that rows lay out. Assumes nothing.
--   word_of m s r     the word of row r in segment s, put together from 32 planes
--   marks_of m r      the marks of row r
--   row_of, rows_of   a row of the memory, and all 64
--   column p rs       the 64-bit number whose bit r says whether row r passes p
--   memory_of rs      the memory that holds these rows, and no other
--   Laid m            the memory is the one that its rows lay out: nothing else is in it
--   Quiet e h         an empty row never has the hit mark
--   opened            the memory after a reset, with every word 0
use Rattle.std.specs.Prelude.{◌≡◌, ℕ, ◌+◌, ◌-◌, ◌*◌, ◌/◌, ◌%◌, ◌^◌, ◌<◌, Bool, false, cond, ◌&&◌, List, [], ◌∷◌, map, length, replicate, ◌==◌, slice_index}
use Rattle.std.specs.List.{range_with_len}
use Rattle.table.specs.Calls.{row_at}
use Rattle.table.specs.Row.{Row, cleared, is_empty, is_hit, word_in}
use Rattle.planes.specs.Bits.{bit_of, number_of, with_bit}
use Rattle.table.specs.declared.parts.Marks.{Marks}
use Rattle.planes.specs.declared.memory.MarkPlanes.{MarkPlanes}
use Rattle.planes.specs.declared.memory.Memory.{Memory}

unfoldable pub word_of : List ℕ → ℕ → ℕ → ℕ
word_of planes s r = number_of (λ b. bit_of (slice_index planes (32 * s + b)) r) 32

abbrev pub marks_of : MarkPlanes → ℕ → Marks
marks_of m r = record { empty = bit_of m.empty r; access = bit_of m.access r; hit = bit_of m.hit r }

abbrev pub row_of : Memory → ℕ → Row
row_of m r = record {
  words = word_of m.planes 0 r ∷ word_of m.planes 1 r ∷ [];
  marks = marks_of m.marks r;
}

unfoldable pub rows_of : Memory → List Row
rows_of m = map (row_of m) (range_with_len 0 64)

unfoldable pub column : (Row → Bool) → List Row → ℕ
column p rs = number_of (λ r. p (row_at rs r)) 64

unfoldable pub planes_of : List Row → List ℕ
planes_of rs = map (λ i. column (λ row. bit_of (word_in row (i / 32)) (i % 32)) rs) (range_with_len 0 64)

abbrev pub memory_of : List Row → Memory
memory_of rs = record {
  planes = planes_of rs;
  marks = record { empty = column is_empty rs; access = column (λ row. row.marks.access) rs; hit = column is_hit rs };
}

abbrev pub Laid : Memory → Type 0
Laid m = m ≡ memory_of (rows_of m)

abbrev pub Quiet : ℕ → ℕ → Type 0
Quiet e h = (r : ℕ) → r < 64 → (bit_of e r && bit_of h r) ≡ false

-- the memory with these marks
abbrev pub remarked : MarkPlanes → Memory → Memory
remarked k m = record { planes = m.planes; marks = k }

abbrev pub vacant : Row
vacant = record { words = 0 ∷ 0 ∷ []; marks = cleared }

unfoldable pub opened : Memory
opened = record { planes = replicate 64 0; marks = record { empty = 2 ^ 64 - 1; access = 0; hit = 0 } }

-- one word put into the planes: one bit in each of the segment's; on segment 0 the row becomes valid
pub record Put (row s word : ℕ) (old new : Memory) : Type 0 where
  pub size : length new.planes ≡ length old.planes
  pub planes : (i : ℕ) → i < 64
      → slice_index new.planes i ≡ cond (i / 32 == s) (with_bit row (bit_of word (i % 32)) (slice_index old.planes i)) (slice_index old.planes i)
  pub empty : new.marks.empty ≡ cond (s == 0) (with_bit row false old.marks.empty) old.marks.empty
  pub access : new.marks.access ≡ old.marks.access
  pub hit : new.marks.hit ≡ old.marks.hit
