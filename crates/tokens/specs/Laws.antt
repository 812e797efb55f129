-- Reading back a number that was written gives the same number. Assumes nothing.
--   EndsWord     nothing follows, or a byte that is no part of a word
--   ReadsBack    whatever stands before a text and behind it, reading there gives n and the place behind
use Rattle.std.specs.Prelude.{◌≡◌, ℕ, ◌+◌, ◌^◌, ◌<◌, ◌≤◌, List, ◌++◌, length, Ok, decimal, Result}
use Rattle.std.specs.List.{prefix_len}
use Rattle.tokens.specs.Hex.{hex_text}
use Rattle.tokens.specs.Numbers.{number32, number64, number_at}
use Rattle.tokens.specs.Words.{is_letter}
use Rattle.tokens.specs.declared.faults.Expected.{Expected}
use Rattle.tokens.specs.declared.faults.TextFault.{TextFault}

abbrev pub EndsWord : List ℕ → Type 0
EndsWord rest = prefix_len is_letter rest ≡ 0

abbrev pub ReadsBack : (List ℕ → ℕ → Result (ℕ × ℕ) TextFault) → List ℕ → ℕ → Type 0
ReadsBack read text n = (before rest : List ℕ) → EndsWord rest → read (before ++ (text ++ rest)) (length before) ≡ Ok (n, length before + length text)

-- numbers up to `most` are read back, from decimal and from `digits` hexadecimal digits
abbrev pub ReadBack : ℕ → Expected → ℕ → Type 0
ReadBack most expected digits =
    (n : ℕ) → n ≤ most → ReadsBack (number_at most expected) (decimal n) n × ReadsBack (number_at most expected) (hex_text digits n) n

abbrev pub Numbers32ReadBack : Type 0
Numbers32ReadBack = (n : ℕ) → n < 2 ^ 32 → ReadsBack number32 (decimal n) n × ReadsBack number32 (hex_text 8 n) n

abbrev pub Numbers64ReadBack : Type 0
Numbers64ReadBack = (n : ℕ) → n < 2 ^ 64 → ReadsBack number64 (decimal n) n × ReadsBack number64 (hex_text 16 n) n
