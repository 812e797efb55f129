-- The digits of a number behind enough zeros are its last digits, as many as are asked for. Assumes nothing.
use Rattle.std.proofs.Common.{◌≡◌, ℕ, zero, suc, ◌+◌, ◌-◌, ◌/◌, ◌%◌, ◌^◌, ◌<◌, ◌≤◌, Bool, true, false, cond, eqb, List, [], ◌∷◌, ◌++◌, length, sym, refl, ap, ◌∙◌, append_assoc, add-one, pow-suc, arith}
use Rattle.std.proofs.Math.ListN.{replicate}
use Rattle.std.proofs.lemmas.Bool.{eqb-true, eqb-false}
use Rattle.std.proofs.lemmas.List.{replicate_more, append-nil}
use Rattle.std.specs.Prelude.{codes}
use Rattle.std.specs.Char.{digit_char}
use Rattle.std.specs.Fmt.{char_count, digits, digits_onto, format_spec, padded_integral}
use Rattle.tokens.specs.Hex.{hex_digits, hex_text}

zeros : (k : ℕ) → replicate k 48 ≡ hex_digits k 0
unfolding hex_digits
zeros zero = refl
zeros (suc k) = ap (λ m. replicate m 48) (sym (add-one k)) ∙ sym (replicate_more k 48) ∙ ap (λ l. l ++ (48 ∷ [])) (zeros k)

above_none : (k n : ℕ) → 0 < n → n < 16 ^ k → 0 < k
above_none zero n some small = absurd (omega arith)
above_none (suc k) n some small = omega arith

abbrev Padded : ℕ → ℕ → List ℕ → List ℕ → Type 0
Padded k n acc ds = replicate (k + length acc - length ds) 48 ++ ds ≡ hex_digits k n ++ acc

-- one digit more before acc: it is the first, or others stand before it
module _ (j k n : ℕ) (acc : List ℕ) where
  abbrev with_last : List ℕ
  with_last = digit_char (n % 16) ∷ acc

  abbrev longer : List ℕ
  longer = digits_onto j 16 false (n / 16) with_last

  with_front : hex_digits k (n / 16) ++ with_last ≡ hex_digits (suc k) n ++ acc
  unfolding hex_digits
  with_front = sym (append_assoc (hex_digits k (n / 16)) (digit_char (n % 16) ∷ []) acc)

  padded_more : (t : Bool) → eqb (n / 16) 0 ≡ t → n < 16 ^ suc k → (0 < k → n / 16 < 16 ^ k → Padded k (n / 16) with_last longer) → Padded (suc k) n acc (cond t with_last longer)
  padded_more true last small on =
      let none : 0 ≡ n / 16 = omega (arith, eqb-true (n / 16) 0 last) in
      ap (λ m. replicate m 48 ++ with_last) {x = suc k + length acc - suc (length acc)} {y = k} (omega arith) ∙ ap (λ l. l ++ with_last) (zeros k) ∙ ap (λ m. hex_digits k m ++ with_last) none ∙ with_front
  padded_more false going small on =
      let some : 0 < n / 16 = omega (arith, eqb-false (n / 16) 0 going) in
      let less : n / 16 < 16 ^ k = omega (arith, pow-suc 16 k) in
      ap (λ m. replicate m 48 ++ longer) {x = suc k + length acc - length longer} {y = k + suc (length acc) - length longer} (omega arith) ∙ on (above_none k (n / 16) some less) less ∙ with_front

-- digits are written from the last on, at most j of them
padded_onto : (j k n : ℕ) (acc : List ℕ) → 0 < k → k ≤ j → n < 16 ^ k → Padded k n acc (digits_onto j 16 false n acc)
padded_onto zero k n acc some few small = absurd (omega arith)
padded_onto (suc j) zero n acc some few small = absurd (omega arith)
padded_onto (suc j) (suc k) n acc some few small = padded_more j k n acc (eqb (n / 16) 0) refl small (λ more less. padded_onto j k (n / 16) (digit_char (n % 16) ∷ acc) more (omega arith) less)

padded_digits : (k n : ℕ) (ds : List ℕ) → digits_onto 64 16 false n [] ≡ ds → 0 < k → k ≤ 64 → n < 16 ^ k → replicate (k - length ds - 0 - 0) 48 ++ (ds ++ []) ≡ hex_digits k n
padded_digits k n ds e some few small =
    rw append-nil (ap (λ m. replicate m 48 ++ ds) {x = k - length ds - 0 - 0} {y = k + 0 - length ds} (omega arith) ∙ ap (λ l. replicate (k + 0 - length l) 48 ++ l) (sym e) ∙ padded_onto 64 k n [] some few small ∙ append-nil (hex_digits k n))

all_digits_of : (n : ℕ) → digits_onto 64 16 false n [] ≡ digits 16 false n
unfolding digits
all_digits_of n = refl

padded_text : (k n : ℕ) → 0 < k → k ≤ 64 → n < 16 ^ k → padded_integral (format_spec 32 0 4 k (2 ^ 64 - 1)) false [] (digits 16 false n) ≡ hex_digits k n
unfolding padded_integral char_count
padded_text k n some few small = padded_digits k n (digits 16 false n) (all_digits_of n) some few small

-- what `0x{number:0width$x}` writes of a number that has at most k digits
pub padded_hex : (k n most width number : ℕ) → width ≡ k → number ≡ n → number ≤ most → (most + 1 ≡ 16 ^ k) × (0 < k) × (k ≤ 16) → codes "0x" ++ padded_integral (format_spec 32 0 4 width (2 ^ 64 - 1)) false [] (digits 16 false number) ≡ hex_text k n
padded_hex k n most width number e f within whole = rw (e, f) (ap (λ l. codes "0x" ++ l) (padded_text k n whole.1 (omega arith) (omega arith)))
