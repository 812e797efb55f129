-- The first row that passes a test is the least one. Assumes nothing.
--   Least p rs n r   r names the smallest row, n or later, that passes, or none does
use Rattle.std.proofs.Common.{◌≡◌, ℕ, zero, suc, ◌<◌, ◌≤◌, Bool, true, false, cond, ◌⊎◌, List, [], ◌∷◌, length, Some, None, Option, sym, refl, ap, ◌∙◌, inl, inr, arith}
use Rattle.std.proofs.lemmas.Bool.{true≢false, cases_order}
use Rattle.std.specs.Option.{option_map}
use Rattle.table.specs.Calls.{first, row_at}
use Rattle.table.specs.Laws.{Least}
use Rattle.table.specs.Row.{Row}

module _ (p : Row → Bool) where
  least_none : (n : ℕ) → Least p [] n None
  least_none n = λ k from below. absurd (omega arith)

  least_here : (row : Row) (rs : List Row) → p row ≡ true → Least p (row ∷ rs) 0 (Some 0)
  least_here row rs e = (omega arith, omega arith, e, λ k from before. absurd (omega arith))

  -- the head fails or lies before m, and the rows behind it fail from n on
  fails_later : (row : Row) (rs : List Row) (n m b : ℕ) → (m ≡ 0 → p row ≡ false) → ((k : ℕ) → m ≤ suc k → n ≤ k)
      → ((k : ℕ) → n ≤ k → k < b → p (row_at rs k) ≡ false) → (k : ℕ) → m ≤ k → k < suc b → p (row_at (row ∷ rs) k) ≡ false
  fails_later row rs n m b head from h zero le lt = head (omega arith)
  fails_later row rs n m b head from h (suc k) le lt = h k (from k le) (omega arith)

  least_later : (row : Row) (rs : List Row) (n m : ℕ) → (m ≡ 0 → p row ≡ false) → ((k : ℕ) → m ≤ suc k → n ≤ k) → m ≤ suc n
      → (r : Option ℕ) → Least p rs n r → Least p (row ∷ rs) m (option_map suc r)
  least_later row rs n m head from to None h = fails_later row rs n m (length rs) head from h
  least_later row rs n m head from to (Some a) h = (omega arith, omega arith, h.2, fails_later row rs n m a head from h.3)

  pub first_least : (rs : List Row) (n : ℕ) → Least p rs n (first p rs n)
  unfolding first
  first_least [] n = least_none n
  first_least (row ∷ rs) zero = from_head (p row) refl (first_least rs zero)
    where
      from_head : (b : Bool) → p row ≡ b → Least p rs zero (first p rs zero) → Least p (row ∷ rs) zero (cond b (Some zero) (option_map suc (first p rs zero)))
      from_head true e h = least_here row rs e
      from_head false e h = least_later row rs zero zero (λ z. e) (λ k le. omega arith) (omega arith) (first p rs zero) h
  first_least (row ∷ rs) (suc n) =
      least_later row rs n (suc n) (λ z. absurd (omega arith)) (λ k le. omega arith) (omega arith) (first p rs n) (first_least rs n)

  -- only one answer is the least
  least_one : (rs : List Row) (n : ℕ) (r s : Option ℕ) → Least p rs n r → Least p rs n s → r ≡ s
  least_one rs n None None h k = refl
  least_one rs n None (Some b) h k = absurd (true≢false (sym k.2 ∙ h b k.0 k.1))
  least_one rs n (Some a) None h k = absurd (true≢false (sym h.2 ∙ k a h.0 h.1))
  least_one rs n (Some a) (Some b) h k = by_order (cases_order a b)
    where
      by_order : (a ≡ b) ⊎ ((a < b) ⊎ (b < a)) → Some a ≡ Some b
      by_order (inl e) = ap Some e
      by_order (inr (inl lt)) = absurd (true≢false (sym h.2 ∙ k.3 a h.0 lt))
      by_order (inr (inr lt)) = absurd (true≢false (sym k.2 ∙ h.3 b k.0 lt))

  pub first_from_least : (rs : List Row) (n : ℕ) (r : Option ℕ) → Least p rs n r → r ≡ first p rs n
  first_from_least rs n r h = least_one rs n r (first p rs n) h (first_least rs n)
