-- The memory is the one that its rows lay out, if every number in it has 64 bits. Assumes nothing.
--   Whole   64 planes, and no number with more than 64 bits
use Rattle.std.proofs.Common.{◌≡◌, ℕ, zero, suc, ◌+◌, ◌*◌, ◌/◌, ◌%◌, ◌^◌, ◌<◌, Bool, List, length, get_or, sym, refl, ap, ◌∙◌, arith}
use Rattle.std.proofs.lemmas.List.FromFn.{length-map-range_with_len, get_or-map-range_with_len, fill_by_all}
use Rattle.table.specs.Calls.{row_at}
use Rattle.table.specs.Row.{Row, is_empty, is_hit, word_in}
use Rattle.planes.specs.Bits.{bit_of, number_of}
use Rattle.planes.specs.Laws.{row_at_rows}
use Rattle.planes.specs.Rows.{Laid, column, planes_of, remarked, row_of, rows_of, word_of}
use Rattle.planes.specs.declared.memory.MarkPlanes.{MarkPlanes}
use Rattle.planes.specs.declared.memory.Memory.{Memory}
use Rattle.planes.proofs.BitLaws.{bit_of-number_of, number_of_lt, same_bits}
use Rattle.planes.proofs.Words.{bit_of-word_of}

pub record Whole (m : Memory) : Type 0 where
  pub size : length m.planes ≡ 64
  pub planes : (i : ℕ) → i < 64 → get_or m.planes i 0 < 2 ^ 64
  pub empty : m.marks.empty < 2 ^ 64
  pub access : m.marks.access < 2 ^ 64
  pub hit : m.marks.hit < 2 ^ 64

pub word_at : (m : Memory) (r s : ℕ) → s < 2 → word_in (row_of m r) s ≡ word_of m.planes s r
word_at m r zero h = refl
word_at m r (suc zero) h = refl
word_at m r (suc (suc s)) h = absurd (omega arith)

same_memory : (p q : List ℕ) (d e a b g h : ℕ) → p ≡ q → d ≡ e → a ≡ b → g ≡ h
    → ◌≡◌ {A = Memory} (record { planes = p; marks = record { empty = d; access = a; hit = g } }) (record { planes = q; marks = record { empty = e; access = b; hit = h } })
same_memory p q d e a b g h ep ed ea eg = rw (ep, ed, ea, eg)

module _ (m : Memory) where
  column_lt : (p : Row → Bool) → column p (rows_of m) < 2 ^ 64
  unfolding column
  column_lt p = number_of_lt (λ r. p (row_at (rows_of m) r)) 64

  column_is : (p : Row → Bool) (x : ℕ) → x < 2 ^ 64 → ((r : ℕ) → r < 64 → bit_of x r ≡ p (row_of m r)) → x ≡ column p (rows_of m)
  unfolding column
  column_is p x small e = same_bits 64 x (number_of (λ r. p (row_at (rows_of m) r)) 64) small (column_lt p)
      (λ r h. e r h ∙ ap p (sym (row_at_rows m r h)) ∙ sym (bit_of-number_of (λ r. p (row_at (rows_of m) r)) 64 r h))

  -- bit r of plane i is that bit of row r
  plane_bit : (i r : ℕ) → i < 64 → bit_of (get_or m.planes i 0) r ≡ bit_of (word_in (row_of m r) (i / 32)) (i % 32)
  plane_bit i r h =
      let e : i ≡ 32 * (i / 32) + i % 32 = omega arith in
      ap (λ (z : ℕ). bit_of (get_or m.planes z 0) r) e ∙ sym (bit_of-word_of m.planes (i / 32) r (i % 32) (omega arith))
      ∙ ap (λ (z : ℕ). bit_of z (i % 32)) (sym (word_at m r (i / 32) (omega arith)))

  planes_laid : Whole m → m.planes ≡ planes_of (rows_of m)
  unfolding planes_of
  planes_laid w = fill_by_all (λ i. column (λ row. bit_of (word_in row (i / 32)) (i % 32)) (rows_of m)) m.planes 64 0 w.size
      (λ i h. column_is (λ row. bit_of (word_in row (i / 32)) (i % 32)) (get_or m.planes i 0) (w.planes i h) (λ r l. plane_bit i r h))

  pub laid_from_whole : Whole m → Laid m
  laid_from_whole w =
      same_memory _ _ _ _ _ _ _ _ (planes_laid w) (column_is is_empty m.marks.empty w.empty (λ r h. refl))
      (column_is (λ row. row.marks.access) m.marks.access w.access (λ r h. refl)) (column_is is_hit m.marks.hit w.hit (λ r h. refl))

  pub whole_from_laid : Laid m → Whole m
  unfolding planes_of
  whole_from_laid e =
      let f : ℕ → ℕ = λ i. column (λ row. bit_of (word_in row (i / 32)) (i % 32)) (rows_of m) in
      record {
        size = ap (λ (x : Memory). length x.planes) e ∙ length-map-range_with_len f 0 64;
        planes = λ i h. rw (ap (λ (x : Memory). get_or x.planes i 0) e ∙ get_or-map-range_with_len f 0 64 i i 0 h (omega arith))
            (column_lt (λ row. bit_of (word_in row (i / 32)) (i % 32)));
        empty = rw (ap (λ (x : Memory). x.marks.empty) e) (column_lt is_empty);
        access = rw (ap (λ (x : Memory). x.marks.access) e) (column_lt (λ row. row.marks.access));
        hit = rw (ap (λ (x : Memory). x.marks.hit) e) (column_lt is_hit);
      }

pub laid_remarked : (m : Memory) (k : MarkPlanes) → Laid m → k.empty < 2 ^ 64 → k.access < 2 ^ 64 → k.hit < 2 ^ 64 → Laid (remarked k m)
laid_remarked m k laid e a h =
    let w = whole_from_laid m laid in
    laid_from_whole (remarked k m) (record { size = w.size; planes = w.planes; empty = e; access = a; hit = h })

-- no row has the access mark any more
pub laid_unvisited : (m : Memory) → Laid m → Laid (remarked (record { empty = m.marks.empty; access = 0; hit = m.marks.hit }) m)
laid_unvisited m laid = let w = whole_from_laid m laid in laid_remarked m _ laid w.empty (omega arith) w.hit
