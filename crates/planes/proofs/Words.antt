-- The planes of a segment, and a word put together from them. Assumes nothing.
use Rattle.std.proofs.Common.{◌≡◌, ℕ, ◌+◌, ◌-◌, ◌*◌, ◌/◌, ◌%◌, ◌^◌, ◌<◌, ◌≤◌, true, false, cond, eqb, ltb, refl, List, length, get_or, set, ap, ◌∙◌, ⊎_elim, arith}
use lib.Bits.{bit_or}
use borrow.Rule.Slice.PartMut.{put_mid, mid_of}
use Rattle.std.proofs.lemmas.Bool.{cases_eq, cases_lt, eq-eqb, le-ltb, lt-ltb, ne_eqb}
use Rattle.std.proofs.lemmas.Bool.Decides.{nat_tests}
use Rattle.std.proofs.lemmas.List.{get_or-set_other, get_or-set_same, places}
use Rattle.planes.specs.Bits.{bit_of, number_of, with_bit}
use Rattle.planes.specs.Rows.{word_of}
use Rattle.planes.proofs.BitLaws.{bit_of-number_of, bit_read, number_of-set, number_of_lt, number_of_unset}

module _ (planes : List ℕ) (s r : ℕ) where
  pub word_of_lt : word_of planes s r < 2 ^ 32
  unfolding word_of
  word_of_lt = number_of_lt (λ b. bit_of (get_or planes (32 * s + b) 0) r) 32

  pub bit_of-word_of : (b : ℕ) → b < 32 → bit_of (word_of planes s r) b ≡ bit_of (get_or planes (32 * s + b) 0) r
  unfolding word_of
  bit_of-word_of b h = bit_of-number_of (λ b. bit_of (get_or planes (32 * s + b) 0) r) 32 b h

  -- the n lowest bits of the word
  unfoldable pub word_to : ℕ → ℕ
  word_to n = number_of (λ b. bit_of (get_or planes (32 * s + b) 0) r) n

  pub word_none : word_to 0 ≡ 0
  unfolding word_to number_of
  word_none = refl

  pub word_all : (n : ℕ) → n ≡ 32 → word_to n ≡ word_of planes s r
  unfolding word_to word_of
  word_all n e = rw e

  pub word_set : (n : ℕ) → n < 32 → bit_of (get_or planes (32 * s + n) 0) r ≡ true → bit_or (word_to n) ((1 * 2 ^ n) % 2 ^ 32) ≡ word_to (n + 1)
  unfolding word_to
  word_set n h e = number_of-set (λ b. bit_of (get_or planes (32 * s + b) 0) r) n 32 h e

  pub word_unset : (n : ℕ) → bit_of (get_or planes (32 * s + n) 0) r ≡ false → word_to n ≡ word_to (n + 1)
  unfolding word_to
  word_unset n e = number_of_unset (λ b. bit_of (get_or planes (32 * s + b) 0) r) n e

pub ruleset word_laws = (word_none, word_all, word_set, word_unset)

-- row r is given the bits of a word in the n lowest planes ys of 32, where xs stood
abbrev pub Given : (r word n : ℕ) → List ℕ → List ℕ → Type 0
Given r word n xs ys = (b : ℕ) → b < 32 → get_or ys b 0 ≡ cond (ltb b n) (with_bit r (bit_of word b) (get_or xs b 0)) (get_or xs b 0)

pub given_none : (r word : ℕ) (xs : List ℕ) → Given r word 0 xs xs
given_none r word xs b h = grind (arith, nat_tests)

pub given_more : (r word n v : ℕ) (xs ys : List ℕ) → n < 32 → length ys ≡ 32 → v ≡ with_bit r (bit_of word n) (get_or ys n 0) → Given r word n xs ys
    → Given r word (n + 1) xs (set ys n v)
given_more r word n v xs ys h count e given b l = ⊎_elim
    (λ s. rw (s, get_or-set_same ys n v 0 (omega arith), lt-ltb n (n + 1) (omega arith), e) (ap (with_bit r (bit_of word n)) (given n h ∙ rw (le-ltb n n (omega arith)))))
    (λ s. get_or-set_other ys n b v 0 s ∙ given b l ∙ grind (arith, nat_tests))
    (cases_eq b n)

-- the 32 planes of segment s are taken out of xs, and ys put back in their place
module _ (s k : ℕ) (xs ys : List ℕ) (width : k ≡ 32) (back : length ys ≡ 32) (count : length xs ≡ 64) (within : s < 2) where
  before : (i : ℕ) → i < 32 * s → get_or (put_mid (32 * s) k xs ys) i 0 ≡ get_or xs i 0
  before i h = grind (arith, places)

  inside : (i : ℕ) → 32 * s ≤ i → i < 32 * s + 32 → get_or (put_mid (32 * s) k xs ys) i 0 ≡ get_or ys (i - 32 * s) 0
  inside i h l = grind (arith, places)

  behind : (i : ℕ) → 32 * s + 32 ≤ i → get_or (put_mid (32 * s) k xs ys) i 0 ≡ get_or xs i 0
  behind i h = grind (arith, places)

  taken : (b : ℕ) → b < 32 → get_or (mid_of (32 * s) k xs) b 0 ≡ get_or xs (32 * s + b) 0
  taken b h = grind (arith, places)

  pub planes_put : (r word n : ℕ) → n ≡ 32 → Given r word n (mid_of (32 * s) k xs) ys → (i : ℕ) → i < 64
      → get_or (put_mid (32 * s) k xs ys) i 0 ≡ cond (eqb (i / 32) s) (with_bit r (bit_of word (i % 32)) (get_or xs i 0)) (get_or xs i 0)
  planes_put r word n all given i h = ⊎_elim
      (λ e. rw (eq-eqb (i / 32) s e) (here i h e (omega arith) (omega arith)))
      (λ e. rw (ne_eqb (i / 32) s e) (⊎_elim (before i) (λ l. behind i (omega arith)) (cases_lt i (32 * s))))
      (cases_eq (i / 32) s)
    where
      here : (i : ℕ) → i < 64 → i / 32 ≡ s → i - 32 * s ≡ i % 32 → 32 * s + i % 32 ≡ i
          → get_or (put_mid (32 * s) k xs ys) i 0 ≡ with_bit r (bit_of word (i % 32)) (get_or xs i 0)
      here i h e b j = inside i (omega arith) (omega arith) ∙ ap (λ (z : ℕ). get_or ys z 0) b ∙ given (i % 32) (omega arith)
          ∙ rw (lt-ltb (i % 32) n (omega arith), taken (i % 32) (omega arith), j)

pub ruleset put_laws = (bit_read, places, given_none, given_more)
