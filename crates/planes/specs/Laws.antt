-- What holds of the rows of every memory: there are 64, each of two words. Assumes nothing.
use Rattle.std.specs.Prelude.{◌≡◌, ℕ, ◌<◌, length, refl}
use Rattle.std.proofs.Common.{arith}
use Rattle.std.proofs.lemmas.List.FromFn.{length-map-range_with_len, get_or-map-range_with_len}
use Rattle.std.proofs.ByRecursion.{All-from_get_or}
use Rattle.table.specs.Calls.{row_at}
use Rattle.table.specs.Laws.{Sound, SoundRow}
use Rattle.table.specs.Row.{blank}
use Rattle.planes.specs.Rows.{Quiet, row_of, rows_of}
use Rattle.planes.specs.declared.memory.Memory.{Memory}

module _ (m : Memory) where
  pub length_rows : length (rows_of m) ≡ 64
  unfolding rows_of
  length_rows = length-map-range_with_len (row_of m) 0 64

  pub row_at_rows : (r : ℕ) → r < 64 → row_at (rows_of m) r ≡ row_of m r
  unfolding rows_of
  row_at_rows r h = get_or-map-range_with_len (row_of m) 0 64 r r blank h (omega arith)

  pub sound_rows : Quiet m.marks.empty m.marks.hit → Sound 2 (rows_of m)
  sound_rows quiet = record {
    some = omega arith;
    narrow = omega arith;
    few = omega (arith, length_rows);
    each = All-from_get_or (SoundRow 2) (rows_of m) blank (λ r h. let l : r < 64 = omega (arith, length_rows) in
        rw (row_at_rows r l) (record { wide = refl; quiet = quiet r l }));
  }
