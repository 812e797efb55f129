-- The words of a device after a write, as its owner finds them. Assumes nothing.
use Rattle.std.proofs.Common.{◌≡◌, ℕ, ◌+◌, ◌*◌, ◌<◌, ◌++◌, get_or, take, drop, set, sym, refl, ap, ◌∙◌, arith}
use Rattle.device.proofs.Writes.{rows_written}
use Rattle.device.specs.Layout.{marks_of}
use Rattle.device.specs.Proved.Memory.{words_of_rows}
use Rattle.device.specs.Rows.{Frame, rows_in, words_of}
use Rattle.device.specs.declared.device.Device.{Device}
use Rattle.std.proofs.lemmas.Nat.{mul-add-lt}
use Rattle.std.proofs.lemmas.List.{drop-set-lt, take-append-drop}
use Rattle.table.specs.Calls.{change}
use Rattle.table.specs.Row.{marks_written, written}

pub words_written : (a b : Device) (r s v : ℕ) → r < a.depth → s < a.width → Frame a b → rows_in b ≡ change r (written s v) (rows_in a)
    → b.words.now ≡ set a.words.now (r * a.width + s) v
words_written a b r s v within in_row f e =
    let n = a.depth * a.width in
    let ws = a.words.now in
    let vs = set ws (r * a.width + s) v in
    let m = marks_written s (marks_of (get_or a.marks.now r 0)) in
    let low : r * a.width + s < n = omega (arith, mul-add-lt r a.width s a.depth within in_row) in
    let rows = e ∙ sym (rows_written a.marks.now a.depth r m a.marked within ws a.width s v (written s v) in_row refl) in
    f.words
    ∙ ap (λ xs. words_of xs ++ drop n ws) rows
    ∙ ap (λ xs. xs ++ drop n ws) (words_of_rows vs _ a.width a.depth)
    ∙ ap (λ xs. take n vs ++ xs) (sym (drop-set-lt n ws (r * a.width + s) v low))
    ∙ take-append-drop n vs
