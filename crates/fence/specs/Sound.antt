-- The rows behind a fence are sound if the table's are. Assumes nothing.
use Rattle.std.specs.Prelude.{ℕ, List}
use Rattle.std.proofs.Common.{arith}
use Rattle.std.proofs.ByRecursion.{All-drop}
use Rattle.std.proofs.lemmas.List.{length-drop}
use Rattle.table.specs.Laws.{Sound, SoundRow}
use Rattle.table.specs.Row.{Row}
use Rattle.table.specs.declared.tables.Table.{Ghosts}
use Rattle.fence.specs.Shown.{fenced_rows, shown}
use Rattle.fence.specs.declared.fences.Fence.{Fence}

shown_sound : (w f : ℕ) (rs : List Row) → Sound w rs → Sound w (shown f rs)
unfolding shown
shown_sound w f rs h = record {
  some = h.some;
  narrow = h.narrow;
  few = let few = h.few in rw length-drop (omega arith);
  each = All-drop (SoundRow w) f rs h.each;
}

pub fenced_sound : {T : Type 0} (t : Ghosts T) (f : Fence T) → Sound (t.width f.table) (fenced_rows t f)
fenced_sound t f = shown_sound (t.width f.table) f.hidden (t.rows f.table) (t.sound f.table)
