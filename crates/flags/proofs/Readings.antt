-- The flags of all rows, from the first rows that a table would name. Assumes nothing.
use Rattle.std.proofs.Common.{◌≡◌, ℕ, ◌+◌, ◌<◌, Bool, List, length, Some, None, Option, sym, refl, ap, ◌∙◌, subst, arith}
use native.Mathlib.Nat.{sub-zero}
use Rattle.flags.proofs.Empties.{no_empty, one_empty}
use Rattle.flags.proofs.Parts.{told}
use Rattle.flags.proofs.Hits.{no_hit, one_hit, several_hits}
use Rattle.flags.specs.Kinds.{full_from, hits_from}
use Rattle.flags.specs.Laws.{between}
use Rattle.flags.specs.Readings.{FullRead, HitsRead, hit_and, hits_are}
use Rattle.std.proofs.lemmas.List.{take_all}
use Rattle.table.proofs.First.{first_least}
use Rattle.table.specs.Calls.{first}
use Rattle.table.specs.Laws.{Least}
use Rattle.table.specs.Row.{Row, is_empty, is_hit}

module _ (rs : List Row) where
  all_rows : between 0 (length rs) rs ≡ rs
  all_rows = rw (sub-zero (length rs)) (take_all (length rs) rs (omega arith))

  within : (p : Row → Bool) (n a : ℕ) → Some a ≡ first p rs n → a < length rs
  within p n a e = (subst (λ (r : Option ℕ). Least p rs n r) (sym e) (first_least p rs n)).1

  next_read : (a : ℕ) → Some a ≡ first is_hit rs 0 → (r : Option ℕ) → r ≡ first is_hit rs (a + 1) → hits_from (between 0 (length rs) rs) 0 ≡ hit_and a r
  next_read a e None f = told (one_hit rs 0 (length rs) a e (within is_hit 0 a e) None f tt)
  next_read a e (Some b) f = told (several_hits rs 0 (length rs) a e (within is_hit 0 a e) b f (within is_hit (a + 1) b f))

  hit_read : (r : Option ℕ) → r ≡ first is_hit rs 0 → hits_from (between 0 (length rs) rs) 0 ≡ hits_are rs r
  hit_read None e = told (no_hit rs 0 (length rs) None e tt)
  hit_read (Some a) e = next_read a e (first is_hit rs (a + 1)) refl

  empty_read : (r : Option ℕ) → r ≡ first is_empty rs 0 → full_from (between 0 (length rs) rs) 0 ≡ record { first_empty = r }
  empty_read None e = told (no_empty rs 0 (length rs) None e tt)
  empty_read (Some a) e = told (one_empty rs 0 (length rs) a e (within is_empty 0 a e))

pub hits_read : HitsRead
hits_read rs = ap (λ xs. hits_from xs 0) (sym (all_rows rs)) ∙ hit_read rs (first is_hit rs 0) refl

pub full_read : FullRead
full_read rs = ap (λ xs. full_from xs 0) (sym (all_rows rs)) ∙ empty_read rs (first is_empty rs 0) refl
