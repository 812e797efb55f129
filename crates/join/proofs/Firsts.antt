-- The first row of a join that passes a test: the upper's, or else the lower's, numbered on. Assumes
-- nothing.
use Rattle.std.proofs.Common.{◌≡◌, ℕ, zero, suc, ◌+◌, ◌-◌, ◌≤◌, Bool, true, false, cond, List, [], ◌∷◌, ◌++◌, map, length, take, Some, None, Option, sym, refl, ap, ◌∙◌, arith}
use Rattle.std.proofs.lemmas.Bool.{lt-ltb}
use Rattle.std.proofs.lemmas.Bool.Decides.{nat_tests}
use Rattle.std.specs.Option.{MatchOption, option_map, option_or}
use Rattle.table.proofs.Splits.{first-append, first-map, first-within}
use Rattle.table.specs.Calls.{first}
use Rattle.table.specs.Row.{Row}
use Rattle.join.specs.Joined.{cut_row, join_rows, within}

within_none : (o : Option ℕ) → within 0 o ≡ None
within_none None = refl
within_none (Some k) = grind (arith, nat_tests)

within-suc : (n : ℕ) (o : Option ℕ) → option_map suc (within n o) ≡ within (suc n) (option_map suc o)
within-suc n None = refl
within-suc n (Some k) = grind (arith, nat_tests)

module _ (p : Row → Bool) where
  first-take : (n : ℕ) (rs : List Row) (i : ℕ) → first p (take n rs) i ≡ within n (first p rs i)
  unfolding first
  first-take zero rs i = sym (within_none (first p rs i))
  first-take (suc n) [] i = refl
  first-take (suc n) (row ∷ rs) zero = at_head (p row) (first-take n rs zero)
    where
      at_head : (b : Bool) → first p (take n rs) 0 ≡ within n (first p rs 0)
          → cond b (Some 0) (option_map suc (first p (take n rs) 0)) ≡ within (suc n) (cond b (Some 0) (option_map suc (first p rs 0)))
      at_head true e = rw (lt-ltb 0 (suc n) (omega arith))
      at_head false e = rw e (within-suc n (first p rs 0))
  first-take (suc n) (row ∷ rs) (suc i) = rw (first-take n rs i) (within-suc n (first p rs i))

  module _ (n w : ℕ) (us ls : List Row) (i : ℕ) where
    first_join : (same : (row : Row) → p (cut_row w row) ≡ p row)
        → first p (join_rows n w us ls) i ≡ within n (option_or (first p us i) (option_map (λ k. length us + k) (first p ls (i - length us))))
    unfolding join_rows
    first_join same = first-take n (map (cut_row w) (us ++ ls)) i ∙ ap (within n) (first-map p (cut_row w) same (us ++ ls) i ∙ first-append p us ls i)

    -- what the upper table found, or else what the lower one found
    pub first_found : ((row : Row) → p (cut_row w row) ≡ p row) → length us ≤ n → (Q : Type 0) (found r : Option ℕ) → found ≡ first p us i
        → MatchOption found Q (λ a. r ≡ Some a) → (Q → r ≡ within n (option_map (λ k. length us + k) (first p ls (i - length us)))) → r ≡ first p (join_rows n w us ls) i
    first_found same few Q None r e m later = later m ∙ sym (first_join same ∙ rw (← e))
    first_found same few Q (Some a) r e m later =
        let lt = first-within p us i a (sym e) in
        m ∙ sym (first_join same ∙ rw (← e, lt-ltb a n (omega arith)))
