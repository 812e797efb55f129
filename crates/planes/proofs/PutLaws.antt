-- The rows after a word was put into the planes, and after the opening. Assumes nothing.
use Rattle.std.proofs.Common.{◌≡◌, ℕ, zero, suc, ◌+◌, ◌*◌, ◌/◌, ◌%◌, ◌^◌, ◌<◌, Bool, true, false, cond, ◌&&◌, eqb, get_or, replicate, sym, refl, ap, ◌∙◌, ap₂, arith}
use Rattle.std.proofs.lemmas.List.{ext_get_or, get_or-replicate, length-replicate}
use Rattle.std.proofs.Math.Bool.{and-false}
use Rattle.std.proofs.lemmas.Bool.{cond_both, eq-eqb, ne_eqb}
use Rattle.table.specs.Calls.{change}
use Rattle.table.specs.Row.{blank, written}
use Rattle.planes.specs.Bits.{bit_of, with_bit}
use Rattle.planes.specs.Laws.{length_rows, row_at_rows}
use Rattle.planes.specs.Rows.{Laid, Put, Quiet, opened, row_of, rows_of, vacant, word_of}
use Rattle.planes.specs.declared.memory.Memory.{Memory}
use Rattle.planes.proofs.BitLaws.{bit_of_none, bit_of_ones, bit_of-with_bit, same_bits, with_bit_lt}
use Rattle.planes.proofs.LaidOut.{laid_from_whole, whole_from_laid}
use Rattle.planes.proofs.RowLaws.{rows_change}
use Rattle.planes.proofs.Words.{bit_of-word_of, word_of_lt}

-- bit r of a number in which bit `row` was replaced, if t says so
replaced_bit : (t : Bool) (row r : ℕ) (b : Bool) (x : ℕ) → r < 64 → bit_of (cond t (with_bit row b x) x) r ≡ cond (t && eqb r row) b (bit_of x r)
replaced_bit true row r b x h = bit_of-with_bit row b x r h
replaced_bit false row r b x h = refl

module _ {row s word : ℕ} {m n : Memory} (put : Put row s word m n) (small : word < 2 ^ 32) where
  put_plane : (t b : ℕ) → t < 2 → b < 32 → get_or n.planes (32 * t + b) 0
      ≡ cond (eqb t s) (with_bit row (bit_of word b) (get_or m.planes (32 * t + b) 0)) (get_or m.planes (32 * t + b) 0)
  put_plane t b h k =
      let d : (32 * t + b) / 32 ≡ t = omega arith in
      let e : (32 * t + b) % 32 ≡ b = omega arith in
      rw (d, e) at (put.planes (32 * t + b) (omega arith))

  put_word : (t r : ℕ) → t < 2 → r < 64 → word_of n.planes t r ≡ cond (eqb t s && eqb r row) word (word_of m.planes t r)
  put_word t r h k = same_bits 32 (word_of n.planes t r) (cond (eqb t s && eqb r row) word (word_of m.planes t r)) (word_of_lt n.planes t r)
      (cond_both (eqb t s && eqb r row) word (word_of m.planes t r) (λ x. x < 2 ^ 32) (λ e. small) (λ e. word_of_lt m.planes t r))
      (λ b l. bit_of-word_of n.planes t r b l ∙ ap (λ (x : ℕ). bit_of x r) (put_plane t b h l)
      ∙ replaced_bit (eqb t s) row r (bit_of word b) (get_or m.planes (32 * t + b) 0) k ∙ by_test b l (eqb t s && eqb r row))
    where
      by_test : (b : ℕ) → b < 32 → (t' : Bool) → cond t' (bit_of word b) (bit_of (get_or m.planes (32 * t + b) 0) r) ≡ bit_of (cond t' word (word_of m.planes t r)) b
      by_test b l true = refl
      by_test b l false = sym (bit_of-word_of m.planes t r b l)

  put_empty : (r : ℕ) → r < 64 → bit_of n.marks.empty r ≡ cond (eqb s 0 && eqb r row) false (bit_of m.marks.empty r)
  put_empty r h = ap (λ (x : ℕ). bit_of x r) put.empty ∙ replaced_bit (eqb s 0) row r false m.marks.empty h

  put_other : (r : ℕ) → r < 64 → (r ≡ row → ⊥) → row_of n r ≡ row_of m r
  put_other r h ne = simp (put_word 0 r (omega arith) h, put_word 1 r (omega arith) h, put_empty r h, put.access, put.hit, ne_eqb r row ne, and-false)

  pub quiet_put : Quiet m.marks.empty m.marks.hit → Quiet n.marks.empty n.marks.hit
  quiet_put quiet r h = ap₂ (λ (x y : Bool). x && y) (put_empty r h) (ap (λ (x : ℕ). bit_of x r) put.hit)
      ∙ by_test (eqb s 0 && eqb r row) (bit_of m.marks.empty r) (bit_of m.marks.hit r) (quiet r h)
    where
      by_test : (t e h : Bool) → (e && h) ≡ false → (cond t false e && h) ≡ false
      by_test true e h q = refl
      by_test false e h q = q

  pub laid_put : Laid m → Laid n
  laid_put laid = let w = whole_from_laid m laid in laid_from_whole n (record {
    size = put.size ∙ w.size;
    planes = λ i h. rw (put.planes i h) (cond_both (eqb (i / 32) s) (with_bit row (bit_of word (i % 32)) (get_or m.planes i 0)) (get_or m.planes i 0)
        (λ x. x < 2 ^ 64) (λ e. with_bit_lt row (bit_of word (i % 32)) (get_or m.planes i 0)) (λ e. w.planes i h));
    empty = rw put.empty (cond_both (eqb s 0) (with_bit row false m.marks.empty) m.marks.empty (λ x. x < 2 ^ 64) (λ e. with_bit_lt row false m.marks.empty) (λ e. w.empty));
    access = rw put.access w.access;
    hit = rw put.hit w.hit;
  })

put_here : (s : ℕ) {row word : ℕ} {m n : Memory} → Put row s word m n → word < 2 ^ 32 → s < 2 → row < 64 → row_of n row ≡ written s word (row_of m row)
put_here zero {row} put small h k =
    simp (put_word put small 0 row (omega arith) k, put_word put small 1 row (omega arith) k, put_empty put small row k, put.access, put.hit, eq-eqb row row refl)
put_here (suc zero) {row} put small h k =
    simp (put_word put small 0 row (omega arith) k, put_word put small 1 row (omega arith) k, put_empty put small row k, put.access, put.hit, eq-eqb row row refl)
put_here (suc (suc s)) put small h k = absurd (omega arith)

pub rows_written : {row s word : ℕ} {m n : Memory} → Put row s word m n → word < 2 ^ 32 → s < 2 → row < 64 → rows_of n ≡ change row (written s word) (rows_of m)
rows_written {row} {s} {word} {m} {n} put small h k = rows_change m n (written s word) row k (put_here s put small h k) (put_other put small)

-- the opening
word-opened : (s r : ℕ) → s < 2 → word_of (replicate 64 0) s r ≡ 0
word-opened s r h = same_bits 32 (word_of (replicate 64 0) s r) 0 (word_of_lt (replicate 64 0) s r) (omega arith)
    (λ b l. bit_of-word_of (replicate 64 0) s r b l ∙ ap (λ (x : ℕ). bit_of x r) (get_or-replicate 64 (32 * s + b) 0 0 (omega arith))
    ∙ bit_of_none r ∙ sym (bit_of_none b))

pub laid_opened : Laid opened
unfolding opened
laid_opened = laid_from_whole opened (record {
  size = length-replicate {A = ℕ} 64 0;
  planes = λ i h. rw (get_or-replicate {A = ℕ} 64 i 0 0 h) (omega arith);
  empty = omega arith;
  access = omega arith;
  hit = omega arith;
})

pub rows_opened : rows_of opened ≡ replicate 64 vacant
unfolding opened
rows_opened = ext_get_or blank (rows_of opened) (replicate 64 vacant) (length_rows opened ∙ sym (length-replicate 64 vacant))
    (λ r h. let l : r < 64 = omega (arith, length_rows opened) in row_at_rows opened r l
    ∙ simp (word-opened 0 r (omega arith), word-opened 1 r (omega arith), bit_of_ones 64 r l, bit_of_none r)
    (sym (get_or-replicate 64 r vacant blank l)))
