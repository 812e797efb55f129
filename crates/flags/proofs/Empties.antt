-- The full flag of rows, from the first empty row that a table names. Assumes nothing.
use Rattle.std.proofs.Common.{◌≡◌, ℕ, suc, ◌+◌, ◌<◌, true, false, List, ◌∷◌, Some, None, Option, ◌∙◌, arith}
use Rattle.flags.proofs.Found.{flag_found, found_passes, lasting_before}
use Rattle.flags.specs.Kinds.{empty_at, full, full_from}
use Rattle.flags.specs.Laws.{Lasting, Reaches, between}
use Rattle.flags.specs.Proved.{full_laws}
use Rattle.table.specs.Calls.{first, row_at}
use Rattle.table.specs.Row.{Row, is_empty}

full_skip : (row : Row) (rs : List Row) (n : ℕ) → is_empty row ≡ false → full_from (row ∷ rs) n ≡ full_from rs (suc n)
unfolding full_from
full_skip row rs n e = rw e

full_here : (row : Row) (rs : List Row) (n : ℕ) → is_empty row ≡ true → full_from (row ∷ rs) n ≡ empty_at n
unfolding full_from
full_here row rs n e = rw e

module _ (rs : List Row) (a b : ℕ) where
  pub no_empty : (r : Option ℕ) → r ≡ first is_empty rs a → Reaches r b → Lasting full_from rs a b (record { flag = full; until = r })
  no_empty = lasting_before full_laws is_empty full_skip rs a b

  pub one_empty : (row : ℕ) → Some row ≡ first is_empty rs a → row < b → Lasting full_from rs a b (record { flag = empty_at row; until = None })
  one_empty row e lt = record {
    reached = tt;
    same = λ k above below.
        flag_found full_laws is_empty full_skip rs a k row e (omega arith)
        ∙ full_here (row_at rs row) (between (row + 1) k rs) row (found_passes full_laws is_empty full_skip rs a row e);
  }
