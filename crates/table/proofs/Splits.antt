-- How a change of one row, and the first row that passes a test, go through lists that are put
-- together, cut short, begun later, or changed row by row. Assumes nothing.
use Rattle.std.proofs.Common.{◌≡◌, ℕ, zero, suc, ◌+◌, ◌-◌, ◌<◌, ◌≤◌, Bool, true, false, cond, List, [], ◌∷◌, ◌++◌, map, length, take, drop, Some, None, Option, sym, refl, ap, ◌∙◌, suc-add, zero-add, arith}
use native.Mathlib.Nat.{sub-zero, zero-sub, suc-sub-suc}
use lib.Seq.{take-set-lt}
use Rattle.std.proofs.lemmas.List.{get_or_append_left, get_or-append_right, get_or-drop, get_or-map, get_or-take, drop-set-add, map-set, set-append_left, set-append_right}
use Rattle.std.specs.Option.{option_map, option_or}
use Rattle.table.proofs.First.{first_least}
use Rattle.table.specs.Calls.{change, first, row_at}
use Rattle.table.specs.Row.{Row, blank}

module _ (f : Row → Row) where
  pub change-append_left : (us ls : List Row) (r : ℕ) → r < length us → change r f (us ++ ls) ≡ change r f us ++ ls
  unfolding change
  change-append_left us ls r h = rw (get_or_append_left us ls blank r h, set-append_left us ls r (f (row_at us r)) h)

  pub change-append_right : (us ls : List Row) (r : ℕ) → length us ≤ r → change r f (us ++ ls) ≡ us ++ change (r - length us) f ls
  unfolding change
  change-append_right us ls r h = rw (get_or-append_right us ls (length us) r blank refl h, set-append_right us ls (length us) r (f (row_at ls (r - length us))) refl h)

  pub change-take : (n : ℕ) (rs : List Row) (r : ℕ) → r < n → change r f (take n rs) ≡ take n (change r f rs)
  unfolding change
  change-take n rs r h = rw (get_or-take n rs r blank h, take-set-lt n rs r (f (row_at rs r)) h)

  pub change-drop : (n : ℕ) (rs : List Row) (r : ℕ) → change r f (drop n rs) ≡ drop n (change (n + r) f rs)
  unfolding change
  change-drop n rs r = rw (get_or-drop n rs r blank, drop-set-add n rs r (f (row_at rs (n + r))))

  pub change-map : (g : Row → Row) → ((row : Row) → f (g row) ≡ g (f row)) → (rs : List Row) (r : ℕ) → r < length rs → change r f (map g rs) ≡ map g (change r f rs)
  unfolding change
  change-map g same rs r h = rw (get_or-map g rs r blank blank h, same (row_at rs r), map-set g rs r (f (row_at rs r)))

-- one function of a value that may be missing, after another
mapped_mapped : {X Y Z : Type 0} (f : X → Y) (g : Y → Z) (h : X → Z) → ((x : X) → g (f x) ≡ h x) → (o : Option X) → option_map g (option_map f o) ≡ option_map h o
mapped_mapped f g h e None = refl
mapped_mapped f g h e (Some x) = ap Some (e x)

mapped_same : {X : Type 0} (f : X → X) → ((x : X) → f x ≡ x) → (o : Option X) → option_map f o ≡ o
mapped_same f e None = refl
mapped_same f e (Some x) = ap Some (e x)

mapped_or_other : {X Y : Type 0} (f : X → Y) (a b : Option X) → option_map f (option_or a b) ≡ option_or (option_map f a) (option_map f b)
mapped_or_other f None b = refl
mapped_or_other f (Some x) b = refl

module _ (p : Row → Bool) where
  -- the first of the upper rows, or else of the lower rows, numbered on
  pub first-append : (us ls : List Row) (i : ℕ)
      → first p (us ++ ls) i ≡ option_or (first p us i) (option_map (λ k. length us + k) (first p ls (i - length us)))
  unfolding first
  first-append [] ls i = rw (sub-zero i) (sym (mapped_same (λ k. 0 + k) zero-add (first p ls i)))
  first-append (u ∷ us) ls zero = at_head (p u) (first-append us ls zero)
    where
      later : option_map suc (option_map (λ k. length us + k) (first p ls (0 - length us))) ≡ option_map (λ k. suc (length us) + k) (first p ls (0 - suc (length us)))
      later = rw (zero-sub (length us), zero-sub (suc (length us)))
          (mapped_mapped (λ k. length us + k) suc (λ k. suc (length us) + k) (λ k. sym (suc-add (length us) k)) (first p ls 0))

      at_head : (b : Bool) → first p (us ++ ls) 0 ≡ option_or (first p us 0) (option_map (λ k. length us + k) (first p ls (0 - length us)))
          → cond b (Some 0) (option_map suc (first p (us ++ ls) 0)) ≡ option_or (cond b (Some 0) (option_map suc (first p us 0))) (option_map (λ k. suc (length us) + k) (first p ls (0 - suc (length us))))
      at_head true e = refl
      at_head false e = rw (e, ← later) (mapped_or_other suc (first p us 0) (option_map (λ k. length us + k) (first p ls (0 - length us))))
  first-append (u ∷ us) ls (suc i) =
      rw (first-append us ls i, suc-sub-suc i (length us))
      (mapped_or_other suc (first p us i) (option_map (λ k. length us + k) (first p ls (i - length us)))
      ∙ ap (option_or (option_map suc (first p us i)))
      (mapped_mapped (λ k. length us + k) suc (λ k. suc (length us) + k) (λ k. sym (suc-add (length us) k)) (first p ls (i - length us))))

  -- behind a hidden front the numbers begin anew
  pub first-drop : (n : ℕ) (rs : List Row) (i : ℕ) → first p (drop n rs) i ≡ option_map (λ k. k - n) (first p rs (n + i))
  unfolding first
  first-drop zero rs i = rw (zero-add i) (sym (mapped_same (λ k. k - 0) sub-zero (first p rs i)))
  first-drop (suc n) [] i = refl
  first-drop (suc n) (row ∷ rs) i =
      rw (suc-add n i) (first-drop n rs i ∙ sym (mapped_mapped suc (λ k. k - suc n) (λ k. k - n) (λ k. suc-sub-suc k n) (first p rs (n + i))))

  -- what leaves the test's answer leaves the first row
  pub first-map : (g : Row → Row) → ((row : Row) → p (g row) ≡ p row) → (rs : List Row) (i : ℕ) → first p (map g rs) i ≡ first p rs i
  unfolding first
  first-map g same [] i = refl
  first-map g same (row ∷ rs) zero = rw (same row, first-map g same rs zero)
  first-map g same (row ∷ rs) (suc i) = rw (first-map g same rs i)

  pub first_past : (rs : List Row) (i : ℕ) → length rs ≤ i → first p rs i ≡ None
  unfolding first
  first_past [] i h = refl
  first_past (row ∷ rs) zero h = absurd (omega arith)
  first_past (row ∷ rs) (suc i) h = rw (first_past rs i (omega arith))

  pub first-within : (rs : List Row) (i a : ℕ) → first p rs i ≡ Some a → a < length rs
  first-within rs i a e = (rw e at (first_least p rs i)).1
