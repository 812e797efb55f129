-- What the check of a cut finds, and what a cut keeps that passed it. Assumes nothing.
use Rattle.std.proofs.Common.{◌≡◌, ℕ, zero, suc, ◌+◌, ◌-◌, ◌<◌, ◌≤◌, Bool, true, false, ◌&&◌, eqb, leb, List, length, get_or, Some, None, sym, refl, ap, ◌∙◌, ⊎_elim, add-one, arith}
use Rattle.flags.specs.Cuts.{Cut, first_break, obeys}
use Rattle.std.proofs.lemmas.List.{get_or_default, get_or_past}
use Rattle.std.proofs.lemmas.Bool.{and_parts, cases_eq, cases_lt, cond-false, eqb-true, leb-true, ne_eqb}

module _ (ok : ℕ → Bool) where
  pub break_none : (i n : ℕ) → ((k : ℕ) → i ≤ k → k < i + n → ok k ≡ true) → None ≡ first_break ok i n
  unfolding first_break
  break_none i zero h = refl
  break_none i (suc n) h = rw (h i (omega arith) (omega arith)) (break_none (suc i) n (λ k le lt. h k (omega arith) (omega arith)))

  pub break_at : (i n m : ℕ) → i ≤ m → m < i + n → ((k : ℕ) → i ≤ k → k < m → ok k ≡ true) → ok m ≡ false → Some m ≡ first_break ok i n
  unfolding first_break
  break_at i zero m le lt h e = absurd (omega arith)
  break_at i (suc n) m le lt h e =
      ⊎_elim (λ same. let here : ok i ≡ false = ap ok same ∙ e in rw here (ap Some (sym same)))
      (λ other. let here : ok i ≡ true = h i (omega arith) (omega arith) in rw here (break_at (suc i) n m (omega arith) (omega arith) (λ k from before. h k (omega arith) before) e))
      (cases_eq i m)

module _ (cut : List ℕ) (depth : ℕ) (ok : (k : ℕ) → k < length cut → obeys cut depth k ≡ true) where
  start_next : (i : ℕ) → i + 1 < length cut → (get_or cut i 0 ≤ get_or cut (i + 1) 0) × (get_or cut (i + 1) 0 ≤ depth)
  start_next i lt =
      let back : i + 1 - 1 ≡ i = omega arith in
      let later : eqb (i + 1) 0 ≡ false = ne_eqb (i + 1) 0 (λ e. omega arith) in
      let passed : (leb (get_or cut (i + 1 - 1) 0) (get_or cut (i + 1) 0) && leb (get_or cut (i + 1) 0) depth) ≡ true = sym (cond-false _ _ _ later) ∙ ok (i + 1) lt in
      let both = and_parts _ _ passed in
      let rising : get_or cut (i + 1 - 1) 0 ≤ get_or cut (i + 1) 0 = leb-true _ _ both.0 in
      (rw back at rising, leb-true _ _ both.1)

  start_within : (i : ℕ) → i < length cut → get_or cut i 0 ≤ depth
  start_within zero lt = omega (arith, eqb-true (get_or cut 0 0) 0 (ok 0 lt))
  start_within (suc i) lt = let h = (start_next i (omega arith)).1 in rw add-one at h

  pub cut_passed : 1 ≤ length cut → Cut cut depth
  cut_passed some = record {
    some = some;
    first = get_or_default cut 0 depth 0 (omega arith) ∙ eqb-true (get_or cut 0 0) 0 (ok 0 (omega arith));
    rising = λ i lt. ⊎_elim
        (λ more. rw (get_or_default cut i depth 0 lt, get_or_default cut (i + 1) depth 0 more) (start_next i more).0)
        (λ last. rw (get_or_default cut i depth 0 lt, get_or_past cut (i + 1) depth last) (start_within i lt))
        (cases_lt (i + 1) (length cut));
    within = λ i lt. ⊎_elim
        (λ more. rw (get_or_default cut (i + 1) depth 0 more) (start_next i more).1)
        (λ last. rw (get_or_past cut (i + 1) depth last) (omega arith))
        (cases_lt (i + 1) (length cut));
  }
