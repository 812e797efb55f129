-- A row, and what each call does to one row. Assumes nothing.
--   Row       its words, one for each segment, and its marks
--   agrees    key and word are the same in every bit that the mask leaves
--   hits      the row has the hit mark after a search
--   searched, written, marked, purged, unvisited, vacated
--             the row after a search, a write, set marks, a purge, clear access, reset
use Rattle.std.specs.Prelude.{ℕ, Bool, true, false, cond, not, ◌&&◌, ◌||◌, List, [], ◌==◌, bit_or, slice_index, slice_set}
use Rattle.table.specs.declared.parts.Marks.{Marks}
use Rattle.table.specs.declared.parts.Marking.{Marking}
use Rattle.table.specs.declared.parts.Purge.{Purge}
use Rattle.table.specs.declared.parts.Purge.TheVariants.{All, WithAccess, WithoutAccess}
use Rattle.table.specs.declared.parts.Search.{Search}

pub record Row : Type 0 where
  pub words : List ℕ
  pub marks : Marks

abbrev pub is_empty : Row → Bool
is_empty row = row.marks.empty

abbrev pub is_hit : Row → Bool
is_hit row = row.marks.hit

abbrev pub word_in : Row → ℕ → ℕ
word_in row s = slice_index row.words s

-- the marks of a row that is empty, and of one that became valid by a write or an append
abbrev pub cleared : Marks
cleared = record { empty = true; access = false; hit = false }

abbrev pub made_valid : Marks → Marks
made_valid m = record { empty = false; access = m.access; hit = m.hit }

-- what stands where a list has no row
abbrev pub blank : Row
blank = record { words = []; marks = cleared }

abbrev pub agrees : Search → ℕ → Bool
agrees q word = bit_or q.key q.mask == bit_or word q.mask

abbrev pub hits : Search → ℕ → Marks → Bool
hits q word m = not m.empty && (agrees q word && (q.head || m.hit))

abbrev pub marks_searched : Search → ℕ → Marks → Marks
marks_searched q word m = record {
  empty = m.empty;
  access = m.access || (q.access && hits q word m);
  hit = hits q word m;
}

abbrev pub searched : Search → Row → Row
searched q row = record { words = row.words; marks = marks_searched q (word_in row q.segment) row.marks }

-- a write on segment 0 makes the row valid
abbrev pub marks_written : ℕ → Marks → Marks
marks_written s m = cond (s == 0) (made_valid m) m

abbrev pub written : ℕ → ℕ → Row → Row
written s word row = record { words = slice_set row.words s word; marks = marks_written s row.marks }

abbrev pub marks_given : Marking → Marks → Marks
marks_given g m = record { empty = g.empty; access = g.access; hit = m.hit && not g.empty }

abbrev pub marked : Marking → Row → Row
marked g row = record { words = row.words; marks = marks_given g row.marks }

-- whether a purge of a kind makes a row with these marks empty
abbrev pub of_kind : Purge → Marks → Bool
of_kind All m = not m.empty
of_kind WithAccess m = not m.empty && m.access
of_kind WithoutAccess m = not m.empty && not m.access

abbrev pub marks_purged : Purge → Marks → Marks
marks_purged k m = cond (of_kind k m) cleared m

abbrev pub purged : Purge → Row → Row
purged k row = record { words = row.words; marks = marks_purged k row.marks }

abbrev pub marks_unvisited : Marks → Marks
marks_unvisited m = record { empty = m.empty; access = false; hit = m.hit }

abbrev pub unvisited : Row → Row
unvisited row = record { words = row.words; marks = marks_unvisited row.marks }

abbrev pub vacated : Row → Row
vacated row = record { words = row.words; marks = cleared }
