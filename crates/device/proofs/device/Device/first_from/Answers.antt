use Rattle.std.proofs.Common.{◌≡◌, ℕ, ◌+◌, ◌-◌, ◌<◌, ◌≤◌, List, length, get_or, take, drop, sym, ap, ◌∙◌, arith}
use Rattle.std.proofs.lemmas.List.{get_or-drop, get_or-take, length-drop, length-take-le}
use Rattle.device.specs.Halves.{NoneOf, has_bit}
use Rattle.device.proofs.device.Device.first_from.Goals as goal

module _ (ms : List ℕ) (mark from depth : ℕ) where
  at_part : (k : ℕ) → k < depth - from → get_or (take (depth - from) (drop from ms)) k 0 ≡ get_or ms (from + k) 0
  at_part k lt = get_or-take (depth - from) (drop from ms) k 0 lt ∙ get_or-drop from ms k 0

  none_before : (n : ℕ) → n ≤ depth - from → NoneOf (λ k. has_bit mark (get_or (take (depth - from) (drop from ms)) k 0)) 0 n
      → NoneOf (λ k. has_bit mark (get_or ms k 0)) from (from + n)
  none_before n le none k low lt =
      let e : k ≡ from + (k - from) = omega arith in
      ap (λ i. has_bit mark (get_or ms i 0)) e ∙ ap (has_bit mark) (sym (at_part (k - from) (omega arith))) ∙ none (k - from) (omega arith) (omega arith)

  length_part : depth ≤ length ms → length (take (depth - from) (drop from ms)) ≡ depth - from
  length_part le = length-take-le (depth - from) (drop from ms) (rw length-drop (omega arith))

pub returns-in_err-row : goal.returns-in_err-row
returns-in_err-row c =
    let d = c.args.self.now in
    let ms = d.marks.now in
    let all : c.args.from + (d.depth - c.args.from) ≡ d.depth = omega arith in
    let none = rw (length_part ms c.args.mark c.args.from d.depth d.marked) at c.in_err-row.ensures in
    rw c.from_residual.ensures (rw all at (none_before ms c.args.mark c.args.from d.depth (d.depth - c.args.from) (omega arith) none))

pub returns : goal.returns
returns c =
    let d = c.args.self.now in
    let ms = d.marks.now in
    let f = rw (length_part ms c.args.mark c.args.from d.depth d.marked) at c.in_ok-row.ensures in (
      omega arith,
      omega (arith, f.1),
      ap (has_bit c.args.mark) (sym (at_part ms c.args.mark c.args.from d.depth c.in_ok-row.row f.1)) ∙ f.2,
      none_before ms c.args.mark c.args.from d.depth c.in_ok-row.row (omega (arith, f.1)) f.3,
    )
