-- The flag of rows is joined from those of its parts: the one use of a kind's laws. Assumes nothing.
use Rattle.std.proofs.Common.{◌≡◌, ℕ, suc, ◌+◌, ◌-◌, ◌<◌, ◌≤◌, List, ◌∷◌, ◌++◌, length, take, drop, ap, ◌∙◌, arith, take-add}
use Rattle.flags.specs.Laws.{Lasting, Laws, between}
use Rattle.flags.specs.declared.kinds.Part.{Part}
use Rattle.std.proofs.lemmas.List.{drop-drop, drop_more, length-drop, length-take}
use Rattle.table.specs.Calls.{row_at}
use Rattle.table.specs.Row.{Row, blank}

module _ (rs : List Row) where
  between_split : (a m b : ℕ) → a ≤ m → m ≤ b → between a b rs ≡ between a m rs ++ between m b rs
  between_split a m b am mb =
      let size : b - a ≡ (m - a) + (b - m) = omega arith in
      let on : a + (m - a) ≡ m = omega arith in
      ap (λ n. take n (drop a rs)) size ∙ take-add (m - a) (b - m) (drop a rs)
      ∙ ap (λ xs. between a m rs ++ take (b - m) xs) (drop-drop (m - a) a rs ∙ ap (λ n. drop n rs) on)

  length-between : (a m : ℕ) → a ≤ m → m ≤ length rs → a + length (between a m rs) ≡ m
  length-between a m am fits = simp (length-take, length-drop) (omega arith)

  pub between_first : (a b : ℕ) → a < b → a < length rs → between a b rs ≡ row_at rs a ∷ between (a + 1) b rs
  between_first a b ab fits =
      let size : b - a ≡ suc (b - (a + 1)) = omega arith in
      ap (λ n. take n (drop a rs)) size ∙ ap (take (suc (b - (a + 1)))) (drop_more rs a blank fits)

pub flag_next : {K : Type 0} {flag : List Row → ℕ → K} {join : K → K → K} {none : K} → Laws flag join none → (rs : List Row) (a m b : ℕ)
    → a ≤ m → m ≤ b → m ≤ length rs → flag (between a b rs) a ≡ join (flag (between a m rs) a) (flag (between m b rs) m)
flag_next {flag = flag} {join = join} laws rs a m b am mb fits =
    ap (λ xs. flag xs a) (between_split rs a m b am mb) ∙ laws.split (between a m rs) (between m b rs) a
    ∙ ap (λ n. join (flag (between a m rs) a) (flag (between m b rs) n)) (length-between rs a m am fits)

-- what a part tells is the flag of its rows
pub told : {K : Type 0} {flag : List Row → ℕ → K} {rs : List Row} {a b : ℕ} {part : Part K} → Lasting flag rs a b part → flag (between a b rs) a ≡ part.flag
told {b = b} l = l.same b (omega arith) l.reached
