use Rattle.std.proofs.Common.{◌*◌, sym, ap, ◌∙◌, arith}
use Rattle.std.specs.Char.{digit_value}
use Rattle.tokens.proofs.Numerals.{continued_over, numeral_from}
use Rattle.tokens.proofs.numbers.numeral.Goals as goal

pub returns-in_err-shifted : goal.returns-in_err-shifted
returns-in_err-shifted c =
    let l = c.loop-byte in
    let digit = c.in_ok-digit.ensures.value in
    let same = ap digit_value c.from.ensures in
    let scaled = ap (λ r. l.number * r) c.from-in-loop-byte.ensures in
    let over = continued_over c.args.most c.args.radix l.number c.args.digits.now l.byte-index c.loop-byte-test.true (omega (arith, digit, same)) (omega (arith, digit, same, scaled, c.in_err-shifted.ensures)) in
    record { answer = c.from_residual-in_err-shifted.ensures ∙ numeral_from _ _ c.args.digits.now _ (sym c.if-is_empty.ensures) (over ∙ l.invariant) }

pub returns-in_err-number : goal.returns-in_err-number
returns-in_err-number c =
    let l = c.loop-byte in
    let digit = c.in_ok-digit.ensures.value in
    let same = ap digit_value c.from.ensures in
    let scaled = ap (λ r. l.number * r) c.from-in-loop-byte.ensures in
    let over = continued_over c.args.most c.args.radix l.number c.args.digits.now l.byte-index c.loop-byte-test.true (omega (arith, digit, same)) (omega (arith, digit, same, scaled, c.in_ok-shifted.ensures, c.in_err-number.ensures)) in
    record { answer = c.from_residual-in_err-number.ensures ∙ numeral_from _ _ c.args.digits.now _ (sym c.if-is_empty.ensures) (over ∙ l.invariant) }
