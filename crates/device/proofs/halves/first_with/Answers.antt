use Rattle.std.proofs.Common.{◌≡◌, ℕ, ◌+◌, ◌-◌, ◌<◌, ◌≤◌, Bool, true, false, ◌⊎◌, length, get_or, sym, ap, ◌∙◌, inl, inr, arith}
use Rattle.std.proofs.lemmas.Bool.{cases_lt}
use Rattle.device.specs.Halves.{Any, NoneOf, has_bit}
use Rattle.device.proofs.halves.first_with.Goals as goal

joined : (p : ℕ → Bool) (n m : ℕ) → NoneOf p 0 n → ((k : ℕ) → k < m → p (n + k) ≡ false) → NoneOf p 0 (n + m)
joined p n m before there k low lt = at (cases_lt k n)
  where
    at : (k < n) ⊎ (n ≤ k) → p k ≡ false
    at (inl less) = before k low less
    at (inr le) = let e : k ≡ n + (k - n) = omega arith in ap p e ∙ there (k - n) (omega arith)

-- one that passes, and is not in the lower half, is in the upper
upper : (p q : ℕ → Bool) (n m : ℕ) → NoneOf p 0 n → ((k : ℕ) → q k ≡ p (n + k)) → Any p 0 (n + m) true → Any q 0 m true
upper p q n m none moved (k, low, lt, h) = at (cases_lt k n)
  where
    at : (k < n) ⊎ (n ≤ k) → Any q 0 m true
    at (inl less) = let e : true ≡ false = sym h ∙ none k low less in cc
    at (inr le) =
        let e : n + (k - n) ≡ k = omega arith in
        (k - n, omega arith, omega arith, moved (k - n) ∙ ap p e ∙ h)

-- the lower half has none, so the first is in the upper half
pub loop-part-preserved : goal.loop-part-preserved
loop-part-preserved c =
    let w = c.loop-part.invariant in
    let s = c.split_at.ensures in
    let ms = c.args.marks.now in
    let part = c.loop-part.part.now in
    let n = length c.split_at.result.0.now in
    let first = c.loop-part.first in
    let at : (k : ℕ) → get_or c.split_at.result.1.now k 0 ≡ get_or part (n + k) 0 = λ k. s.by_index.2 k 0 ∙ ap (λ i. get_or part (i + k) 0) (sym s.front_len) in
    let none : NoneOf (λ k. has_bit c.args.mark (get_or part k 0)) 0 n =
    λ k low lt. ap (has_bit c.args.mark) (sym (s.by_index.1 k 0 (omega arith))) ∙ c.if-any_with.ensures k low lt in
    let size : length part ≡ n + length c.split_at.result.1.now = omega arith in
    record {
      within = omega arith;
      same = λ k lt. let e : first + (n + k) ≡ first + n + k = omega arith in at k ∙ w.same (n + k) (omega arith) ∙ ap (λ i. get_or ms i 0) e;
      before = joined (λ k. has_bit c.args.mark (get_or ms k 0)) first n w.before
          (λ k lt. ap (has_bit c.args.mark) (sym (w.same k (omega arith))) ∙ none k (omega arith) lt);
      some = upper (λ k. has_bit c.args.mark (get_or part k 0)) (λ k. has_bit c.args.mark (get_or c.split_at.result.1.now k 0)) n _ none
          (λ k. ap (has_bit c.args.mark) (at k)) (rw size at w.some);
    }
