-- The rows after the calls that change marks alone. Assumes nothing.
use Rattle.std.proofs.Common.{◌≡◌, ℕ, ◌-◌, ◌^◌, ◌<◌, Bool, true, false, cond, not, ◌&&◌, ◌||◌, map, refl, ap, w64}
use lib.Bits.{bit_and, bit_or}
use Rattle.std.proofs.Math.Bool.{and-false, and-true, or-false, or-true}
use Rattle.std.proofs.lemmas.Bool.{eq-eqb, ne_eqb}
use Rattle.std.specs.Int.{bit_not}
use Rattle.table.specs.Calls.{change}
use Rattle.table.specs.Row.{agrees, marked, of_kind, purged, searched, unvisited, vacated}
use Rattle.table.specs.declared.parts.Marking.{Marking}
use Rattle.table.specs.declared.parts.Marks.{Marks}
use Rattle.table.specs.declared.parts.Purge.{Purge}
use Rattle.table.specs.declared.parts.Search.{Search}
use Rattle.planes.specs.Bits.{bit_of, with_bit}
use Rattle.planes.specs.Rows.{Quiet, marks_of, remarked, row_of, rows_of, word_of}
use Rattle.planes.specs.declared.memory.Memory.{Memory}
use Rattle.planes.proofs.BitLaws.{bit_of-and, bit_of_none, bit_of-not, bit_of_ones, bit_of-or, bit_of-with_bit, with_bit_lt}
use Rattle.planes.proofs.LaidOut.{word_at}
use Rattle.planes.proofs.RowLaws.{rows_change, rows_map}

still : (e h : Bool) → (e && h) ≡ false → (h && not e) ≡ h
still true h s = rw s
still false h s = and-true h

module _ (m : Memory) where
  pub rows_unvisited : rows_of (remarked (record { empty = m.marks.empty; access = 0; hit = m.marks.hit }) m) ≡ map unvisited (rows_of m)
  rows_unvisited = rows_map m _ unvisited (λ r h. rw (bit_of_none r))

  pub rows_vacated : rows_of (remarked (record { empty = 2 ^ 64 - 1; access = 0; hit = 0 }) m) ≡ map vacated (rows_of m)
  rows_vacated = rows_map m _ vacated (λ r h. rw (bit_of_ones 64 r h, bit_of_none r))

  -- a search: agreeing rows g, spread flags d and f
  module _ (q : Search) (g d f : ℕ) (small : m.marks.empty < 2 ^ 64) where
    abbrev hit : ℕ
    hit = bit_and (bit_not w64 m.marks.empty) (bit_and g (bit_or d m.marks.hit))

    pub rows_searched : q.segment < 2
        → ((r : ℕ) → r < 64 → bit_of g r ≡ agrees q (word_of m.planes q.segment r))
        → ((r : ℕ) → r < 64 → bit_of d r ≡ q.head)
        → ((r : ℕ) → r < 64 → bit_of f r ≡ q.access)
        → rows_of (remarked (record { empty = m.marks.empty; access = bit_or m.marks.access (bit_and f hit); hit = hit }) m) ≡ map (searched q) (rows_of m)
    rows_searched within eg ed ef = rows_map m _ (searched q) (λ r h.
        simp (word_at m r q.segment within, bit_of-or, bit_of-and, bit_of-not w64 m.marks.empty r h small, eg r h, ed r h, ef r h))

  -- a purge: rows x that go
  module _ (kind : Purge) (x : ℕ) (small : x < 2 ^ 64) (goes : (r : ℕ) → r < 64 → bit_of x r ≡ of_kind kind (marks_of m.marks r)) where
    -- the marks of one row, which goes or stays
    purged_mark : (e a h g : Bool) → ◌≡◌ {A = Marks} (record { empty = e || g; access = a && not g; hit = h && not g })
        (cond g (record { empty = true; access = false; hit = false }) (record { empty = e; access = a; hit = h }))
    purged_mark e a h true = rw (or-true e, and-false a, and-false h)
    purged_mark e a h false = rw (or-false e, and-true a, and-true h)

    pub rows_purged : rows_of (remarked (record { empty = bit_or m.marks.empty x; access = bit_and m.marks.access (bit_not w64 x); hit = bit_and m.marks.hit (bit_not w64 x) }) m)
        ≡ map (purged kind) (rows_of m)
    rows_purged = rows_map m _ (purged kind) (λ r h.
        simp (bit_of-or, bit_of-and, bit_of-not w64 x r h small, ← goes r h)
        (ap (λ (k : Marks). record { words = (row_of m r).words; marks = k }) (purged_mark (bit_of m.marks.empty r) (bit_of m.marks.access r) (bit_of m.marks.hit r) (bit_of x r))))

  -- set marks of one row
  module _ (row : ℕ) (g : Marking) where
    abbrev empty : ℕ
    empty = with_bit row g.empty m.marks.empty

    pub rows_marked : row < 64 → Quiet m.marks.empty m.marks.hit
        → rows_of (remarked (record { empty = empty; access = with_bit row g.access m.marks.access; hit = bit_and m.marks.hit (bit_not w64 empty) }) m)
        ≡ change row (marked g) (rows_of m)
    rows_marked within quiet = let small = with_bit_lt row g.empty m.marks.empty in rows_change m _ (marked g) row within
        (simp (bit_of-and, bit_of-not w64 empty row within small, bit_of-with_bit, eq-eqb row row refl))
        (λ r h ne. simp (
          bit_of-and,
          bit_of-not w64 empty r h small,
          bit_of-with_bit,
          ne_eqb r row ne,
          still (bit_of m.marks.empty r) (bit_of m.marks.hit r) (quiet r h),
        ))
