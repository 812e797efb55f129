-- The rows of a join are sound if those of its tables are. Assumes nothing.
use Rattle.std.specs.Prelude.{ℕ, ◌≤◌, min, List, ◌++◌, map}
use Rattle.std.proofs.Common.{arith}
use Rattle.std.proofs.ByRecursion.{All-append, All-map, All-take, All-weaker}
use Rattle.std.proofs.lemmas.List.{length-take, length-take-le}
use Rattle.table.specs.Laws.{Sound, SoundRow}
use Rattle.table.specs.Row.{Row}
use Rattle.table.specs.declared.tables.Table.{Ghosts}
use Rattle.join.specs.Joined.{cut_row, join_rows, joined_rows, joined_width}
use Rattle.join.specs.declared.joins.Join.{Join}

-- a row of v words is, cut to w of them, a row of w words
cut_sound : (v w : ℕ) → w ≤ v → (row : Row) → SoundRow v row → SoundRow w (cut_row w row)
cut_sound v w le row h = let e = h.wide in record { wide = length-take-le w row.words (omega arith); quiet = h.quiet }

join_sound : (v w : ℕ) (us ls : List Row) → Sound v us → Sound w ls → Sound (min v w) (join_rows 262144 (min v w) us ls)
unfolding join_rows
join_sound v w us ls h k = record {
  some = let a = h.some in let b = k.some in omega arith;
  narrow = let a = h.narrow in omega arith;
  few = rw (length-take 262144 (map (cut_row (min v w)) (us ++ ls))) (omega arith);
  each = All-take (SoundRow (min v w)) 262144 (map (cut_row (min v w)) (us ++ ls))
      (All-map (SoundRow (min v w)) (cut_row (min v w)) (us ++ ls)
      (All-append (λ row. SoundRow (min v w) (cut_row (min v w) row)) us ls
      (All-weaker (SoundRow v) (λ row. SoundRow (min v w) (cut_row (min v w) row)) (cut_sound v (min v w) (omega arith)) us h.each)
      (All-weaker (SoundRow w) (λ row. SoundRow (min v w) (cut_row (min v w) row)) (cut_sound w (min v w) (omega arith)) ls k.each)));
}

pub joined_sound : {U L : Type 0} (u : Ghosts U) (l : Ghosts L) (j : Join U L) → Sound (joined_width u l j) (joined_rows u l j)
joined_sound u l j = join_sound (u.width j.upper) (l.width j.lower) (u.rows j.upper) (l.rows j.lower) (u.sound j.upper) (l.sound j.lower)
