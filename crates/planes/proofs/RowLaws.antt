-- The rows of one memory from those of another: all changed alike, or one; the first row with a mark.
-- Assumes nothing.
use Rattle.std.proofs.Common.{◌≡◌, ℕ, ◌<◌, Bool, ◌≢◌, map, Some, None, Option, sym, refl, ap, ◌∙◌, ⊎_elim, arith}
use Rattle.std.proofs.lemmas.List.{ext_get_or, get_or-map, length-map}
use Rattle.std.proofs.lemmas.Bool.{cases_eq}
use Rattle.table.proofs.Changes.{length-change, row_at-change_same, row_at-change_other}
use Rattle.table.proofs.First.{first_from_least}
use Rattle.table.specs.Calls.{change, first, row_at}
use Rattle.table.specs.Laws.{Least}
use Rattle.table.specs.Row.{Row, blank, is_empty, is_hit}
use Rattle.planes.specs.Bits.{FirstBit, bit_of}
use Rattle.planes.specs.Laws.{length_rows, row_at_rows}
use Rattle.planes.specs.Rows.{row_of, rows_of}
use Rattle.planes.specs.declared.memory.Memory.{Memory}

module _ (m n : Memory) (f : Row → Row) where
  pub rows_map : ((r : ℕ) → r < 64 → row_of n r ≡ f (row_of m r)) → rows_of n ≡ map f (rows_of m)
  rows_map e = ext_get_or blank (rows_of n) (map f (rows_of m)) (length_rows n ∙ sym (length-map (rows_of m) f ∙ length_rows m))
      (λ r h. let l : r < 64 = omega (arith, length_rows n) in
      row_at_rows n r l ∙ e r l ∙ ap f (sym (row_at_rows m r l)) ∙ sym (get_or-map f (rows_of m) r blank blank (omega (arith, length_rows m))))

  pub rows_change : (row : ℕ) → row < 64 → row_of n row ≡ f (row_of m row) → ((r : ℕ) → r < 64 → r ≢ row → row_of n r ≡ row_of m r)
      → rows_of n ≡ change row f (rows_of m)
  rows_change row within here others =
      ext_get_or blank (rows_of n) (change row f (rows_of m)) (length_rows n ∙ sym (length-change f (rows_of m) row ∙ length_rows m))
      (λ r h. let l : r < 64 = omega (arith, length_rows n) in row_at_rows n r l ∙ ⊎_elim
      (λ s. rw s (here ∙ ap f (sym (row_at_rows m row within)) ∙ sym (row_at-change_same f (rows_of m) row (omega (arith, length_rows m)))))
      (λ s. others r l s ∙ sym (row_at_rows m r l) ∙ sym (row_at-change_other f (rows_of m) row r s))
      (cases_eq r row))

module _ (m : Memory) (p : Row → Bool) (x : ℕ) (e : (r : ℕ) → r < 64 → p (row_of m r) ≡ bit_of x r) where
  test_row : (r : ℕ) → r < 64 → p (row_at (rows_of m) r) ≡ bit_of x r
  test_row r h = ap p (row_at_rows m r h) ∙ e r h

  least_bit : (from : ℕ) (a : Option ℕ) → FirstBit x from a → Least p (rows_of m) from a
  least_bit from None h = λ k le lt. let l : k < 64 = omega (arith, length_rows m) in test_row k l ∙ h k le l
  least_bit from (Some a) h = (
    h.0,
    omega (arith, length_rows m),
    test_row a h.1 ∙ h.2,
    λ k le lt. test_row k (omega arith) ∙ h.3 k le lt,
  )

  first_bit : (from : ℕ) (a : Option ℕ) → FirstBit x from a → a ≡ first p (rows_of m) from
  first_bit from a h = first_from_least p (rows_of m) from a (least_bit from a h)

module _ (m : Memory) (from : ℕ) (a : Option ℕ) where
  pub first_hit_bit : FirstBit m.marks.hit from a → a ≡ first is_hit (rows_of m) from
  first_hit_bit h = first_bit m is_hit m.marks.hit (λ r l. refl) from a h

  pub first_empty_bit : FirstBit m.marks.empty from a → a ≡ first is_empty (rows_of m) from
  first_empty_bit h = first_bit m is_empty m.marks.empty (λ r l. refl) from a h
