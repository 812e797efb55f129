use Rattle.std.proofs.Common.{◌≡◌, ◌+◌, ◌*◌, length, set, replicate, sym, ap, ◌∙◌, arith, rules}
use Rattle.device.proofs.Laid.{words_written}
use Rattle.device.specs.Rows.{new_row, rows_in}
use Rattle.std.proofs.lemmas.List.{length-replicate}
use Rattle.table.proofs.Checks.{cell-granted}
use Rattle.table.specs.Calls.{change}
use Rattle.table.specs.Row.{written}
use Rattle.device_tests.proofs.owner.stored.Goals as goal

pub returns : goal.returns
returns c = record {
  words = λ passed l.
      let opened = c.open-device.ensures.memory in
      let a = c.open-device.result in
      let b = c.write.new.self in
      let r = c.args.row in
      let width : a.width ≡ 1 = rw passed at opened.width in
      let depth : a.depth ≡ 8192 = rw passed at opened.depth in
      let cleared : a.words.now ≡ replicate (length c.args.words.now) 0 = rw passed at opened.words in
      let deep : length (rows_in a) ≡ 8192 = ap length (rw passed at opened.rows) ∙ length-replicate 8192 (new_row 1) in
      let granted = c.write.ensures.answer ∙ sym (cell-granted a.width (rows_in a) r 0 tt (omega arith) (omega arith)) in
      let rows : rows_in b ≡ change r (written 0 c.args.word) (rows_in a) = rw granted at c.write.ensures.rows in
      let place : r * a.width + 0 ≡ r = rw width (omega arith) in
      let stored : b.words.now ≡ set (replicate (length c.args.words.now) 0) r c.args.word =
      words_written a b r 0 c.args.word (omega arith) (omega arith) c.write.ensures.frame rows
      ∙ ap (λ i. set a.words.now i c.args.word) place ∙ ap (λ xs. set xs r c.args.word) cleared in
      let lender = c.write.ensures.frame.lent_words ∙ opened.lent_words in
      let back = sym lender in search (rules);
}
