-- Reading a number where it stands in a line. Assumes nothing.
use Rattle.std.proofs.Common.{◌≡◌, ℕ, ◌+◌, ◌<◌, true, false, not, ◌&&◌, eqb, List, [], ◌∷◌, ◌++◌, length, take, drop, Some, Ok, refl, ap, ◌∙◌, arith}
use Rattle.std.proofs.lemmas.List.{take_at}
use Rattle.std.proofs.lemmas.Bool.{and_parts, cond-false, cond-true, not-true}
use Rattle.std.specs.List.{prefix_len}
use Rattle.tokens.proofs.Written.{letters}
use Rattle.tokens.specs.Laws.{EndsWord}
use Rattle.tokens.specs.Numbers.{number_at, number_of, or_fault}
use Rattle.tokens.specs.Words.{is_blank, is_letter, word_at, word_end, word_start}
use Rattle.tokens.specs.declared.faults.Expected.{Expected}

leading_letters : (w rest : List ℕ) → letters w ≡ true → EndsWord rest → prefix_len is_letter (w ++ rest) ≡ length w
leading_letters [] rest h e = e
leading_letters (b ∷ w) rest h e =
    let hs = and_parts (is_letter b) (letters w) h in
    cond-true _ _ _ hs.0 ∙ omega (arith, leading_letters w rest hs.1 e)

letter_no_blank : (b : ℕ) → is_letter b ≡ true → is_blank b ≡ false
letter_no_blank b h = not-true (is_blank b) (and_parts (not (is_blank b)) (not (eqb b 61) && not (eqb b 35)) h).0

no_blank : (w rest : List ℕ) → 0 < length w → letters w ≡ true → prefix_len is_blank (w ++ rest) ≡ 0
no_blank [] rest some h = absurd (omega arith)
no_blank (b ∷ w) rest some h = cond-false _ _ _ (letter_no_blank b (and_parts (is_letter b) (letters w) h).0)

module _ (line : List ℕ) (at : ℕ) (w rest : List ℕ) (left : drop at line ≡ w ++ rest) (good : letters w ≡ true) where
  start_is : 0 < length w → word_start line at ≡ at
  start_is some = omega (arith, ap (prefix_len is_blank) left ∙ no_blank w rest some good)

  module _ (ends : EndsWord rest) where
    run : prefix_len is_letter (drop at line) ≡ length w
    run = ap (prefix_len is_letter) left ∙ leading_letters w rest good ends

    word_end_is : word_end line at ≡ at + length w
    word_end_is = ap (λ n. at + n) run

    word_at_is : word_at line at ≡ w
    word_at_is = ap (λ n. take n (drop at line)) run ∙ ap (take (length w)) left ∙ take_at w rest (length w) refl

    pub number_here : (most : ℕ) (expected : Expected) (n : ℕ) → 0 < length w → number_of most w ≡ Some n → number_at most expected line at ≡ Ok (n, at + length w)
    number_here most expected n some reads =
        ap (λ k. or_fault k expected (word_end line k) (number_of most (word_at line k))) (start_is some)
        ∙ (λ i. or_fault at expected (word_end_is i) (number_of most (word_at_is i)))
        ∙ ap (or_fault at expected (at + length w)) reads
