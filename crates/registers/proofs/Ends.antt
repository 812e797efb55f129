-- Whether some step from the n-th on ends, by the steps that are left. Assumes nothing.
use Rattle.std.proofs.Common.{◌≡◌, ℕ, zero, suc, ◌<◌, ◌≤◌, Bool, false, ◌||◌, List, [], ◌∷◌, length, get_or, drop, refl, ap, drop-cons}
use Rattle.std.proofs.Math.ListN.{drop_of_length-le}
use Rattle.std.specs.List.{list_any}
use Rattle.registers.specs.Start.{some_ends}

module _ {S : Type 0} (ends : S → Bool) where
  pub some_ends_any : (steps : List S) (n : ℕ) → some_ends ends steps n ≡ list_any ends (drop n steps)
  unfolding some_ends
  some_ends_any [] n = elim n as (λ n. false ≡ list_any ends (drop n [])) [ zero ↦ refl | suc n ↦ refl ]
  some_ends_any (step ∷ steps) zero = ap (λ (b : Bool). ends step || b) (some_ends_any steps zero)
  some_ends_any (step ∷ steps) (suc n) = some_ends_any steps n

  pub some_ends_step : (d : S) (steps : List S) (n : ℕ) → n < length steps → some_ends ends steps n ≡ (ends (get_or steps n d) || some_ends ends steps (suc n))
  some_ends_step d steps n h = rw (some_ends_any steps n, some_ends_any steps (suc n), drop-cons steps n d h)

  pub some_ends_past : (steps : List S) (n : ℕ) → length steps ≤ n → some_ends ends steps n ≡ false
  some_ends_past steps n h = rw (some_ends_any steps n, drop_of_length-le steps h)
