-- Flags of a kind for which only rows that pass a test count, from the first of them. Assumes nothing.
use Rattle.std.proofs.Common.{◌≡◌, ℕ, suc, ◌+◌, ◌-◌, ◌<◌, ◌≤◌, Bool, true, false, List, [], ◌∷◌, length, drop, Some, None, Option, sym, ap, ◌∙◌, subst, arith}
use Rattle.flags.proofs.Parts.{between_first, flag_next}
use Rattle.flags.specs.Laws.{Lasting, Laws, Reaches, between}
use Rattle.std.proofs.lemmas.List.{get_or-drop, get_or-take, length-drop, length-take}
use Rattle.table.proofs.First.{first_least}
use Rattle.table.specs.Calls.{first, row_at}
use Rattle.table.specs.Laws.{Least}
use Rattle.table.specs.Row.{Row, blank}

module _ {K : Type 0} {flag : List Row → ℕ → K} {join : K → K → K} {none : K} (laws : Laws flag join none)
    (p : Row → Bool) (skip : (row : Row) (rs : List Row) (n : ℕ) → p row ≡ false → flag (row ∷ rs) n ≡ flag rs (suc n)) where
  flag_quiet : (xs : List Row) (n : ℕ) → ((k : ℕ) → k < length xs → p (row_at xs k) ≡ false) → flag xs n ≡ none
  flag_quiet [] n h = laws.empty n
  flag_quiet (row ∷ xs) n h = skip row xs n (h 0 (omega arith)) ∙ flag_quiet xs (suc n) (λ k lt. h (suc k) (omega arith))

  quiet_between : (rs : List Row) (a b : ℕ) → ((k : ℕ) → a ≤ k → k < b → k < length rs → p (row_at rs k) ≡ false) → flag (between a b rs) a ≡ none
  quiet_between rs a b h = flag_quiet (between a b rs) a
      (λ k lt.
      let size = simp (length-take, length-drop) at lt in
      let inside : k < b - a = omega arith in
      let same : row_at (between a b rs) k ≡ row_at rs (a + k) = get_or-take (b - a) (drop a rs) k blank inside ∙ get_or-drop a rs k blank in
      ap p same ∙ h (a + k) (omega arith) (omega arith) (omega arith))

  least : (rs : List Row) (a : ℕ) (r : Option ℕ) → r ≡ first p rs a → Least p rs a r
  least rs a r e = subst (λ (o : Option ℕ). Least p rs a o) (sym e) (first_least p rs a)

  -- no row counts before the first that does
  flag_before : (rs : List Row) (a b : ℕ) (r : Option ℕ) → r ≡ first p rs a → Reaches r b → flag (between a b rs) a ≡ none
  flag_before rs a b None e end = quiet_between rs a b (λ k from before fits. least rs a None e k from fits)
  flag_before rs a b (Some row) e end = quiet_between rs a b (λ k from before fits. (least rs a (Some row) e).3 k from (omega arith))

  pub lasting_before : (rs : List Row) (a b : ℕ) (r : Option ℕ) → r ≡ first p rs a → Reaches r b → Lasting flag rs a b (record { flag = none; until = r })
  lasting_before rs a b r e end = record { reached = end; same = λ k above below. flag_before rs a k r e below }

  -- the rows before the first that counts add nothing
  pub flag_found : (rs : List Row) (a b row : ℕ) → Some row ≡ first p rs a → row < b → flag (between a b rs) a ≡ flag (row_at rs row ∷ between (row + 1) b rs) row
  flag_found rs a b row e lt =
      let found = least rs a (Some row) e in
      flag_next laws rs a row b found.0 (omega arith) (omega (arith, found.1))
      ∙ ap (λ x. join x (flag (between row b rs) row)) (flag_before rs a row (Some row) e (omega arith)) ∙ laws.left (flag (between row b rs) row)
      ∙ ap (λ xs. flag xs row) (between_first rs row b lt found.1)

  pub found_passes : (rs : List Row) (a row : ℕ) → Some row ≡ first p rs a → p (row_at rs row) ≡ true
  found_passes rs a row e = (least rs a (Some row) e).2
