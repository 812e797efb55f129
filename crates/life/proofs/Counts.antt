-- The first row that passes is the lowest, and the next one after the n-th is the one after. Assumes nothing.
use Rattle.std.proofs.Common.{◌≡◌, ℕ, zero, suc, ◌+◌, ◌-◌, ◌<◌, ◌≤◌, Bool, true, false, cond, List, length, take, Some, None, Option, sym, ap, ◌∙◌, add-zero, add-suc, add-one, arith}
use Rattle.life.specs.Walks.{Lowest, count}
use Rattle.std.proofs.lemmas.List.Filters.{length-filter_more}
use Rattle.std.proofs.lemmas.List.{take_all}
use Rattle.table.specs.Calls.{row_at}
use Rattle.table.specs.Laws.{Least}
use Rattle.table.specs.Row.{Row, blank}

module _ (p : Row → Bool) (rs : List Row) where
  -- one row more is counted if it passes
  count_more : (i : ℕ) (b : Bool) → i < length rs → p (row_at rs i) ≡ b → count p (take (i + 1) rs) ≡ count p (take i rs) + cond b 1 0
  count_more i b lt e = length-filter_more p rs i blank lt ∙ ap (λ b. count p (take i rs) + cond b 1 0) e

  -- rows that all fail are not counted
  count_skip : (i d : ℕ) → i + d ≤ length rs → ((k : ℕ) → i ≤ k → k < i + d → p (row_at rs k) ≡ false) → count p (take (i + d) rs) ≡ count p (take i rs)
  count_skip i zero le none = ap (λ n. count p (take n rs)) (add-zero i)
  count_skip i (suc d) le none =
      ap (λ n. count p (take n rs)) (add-suc i d ∙ sym (add-one (i + d)))
      ∙ count_more (i + d) false (omega arith) (none (i + d) (omega arith) (omega arith)) ∙ add-zero (count p (take (i + d) rs))
      ∙ count_skip i d (omega arith) (λ k from lt. none k from (omega arith))

  -- from one place to a later one
  count-between : (i j : ℕ) → i ≤ j → j ≤ length rs → ((k : ℕ) → i ≤ k → k < j → p (row_at rs k) ≡ false) → count p (take j rs) ≡ count p (take i rs)
  count-between i j le end none =
      let there : i + (j - i) ≡ j = omega arith in
      ap (λ n. count p (take n rs)) (sym there) ∙ count_skip i (j - i) (omega arith) (λ k from lt. none k from (omega arith))

  count_all : count p (take (length rs) rs) ≡ count p rs
  count_all = ap (count p) (take_all (length rs) rs (omega arith))

  pub lowest_first : (r : Option ℕ) → Least p rs 0 r → Lowest p rs 1 r
  lowest_first None none = let e = count-between 0 (length rs) (omega arith) (omega arith) none in omega (arith, count_all)
  lowest_first (Some a) l =
      let e = count-between 0 a l.0 (omega arith) l.3 in (l.1, l.2, omega arith)

  pub lowest_next : (n a : ℕ) (r : Option ℕ) → Lowest p rs n (Some a) → Least p rs (a + 1) r → Lowest p rs (n + 1) r
  lowest_next n a None low none =
      let e = count-between (a + 1) (length rs) (omega arith) (omega arith) none in
      omega (arith, count_all, count_more a true low.0 low.1)
  lowest_next n a (Some b) low l =
      let e = count-between (a + 1) b l.0 (omega arith) l.3 in
      (l.1, l.2, omega (arith, count_more a true low.0 low.1))

  pub lowest_none : (n : ℕ) → Lowest p rs n None → Lowest p rs (n + 1) None
  lowest_none n low = omega arith
