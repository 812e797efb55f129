use Rattle.std.proofs.Output.{has_written_of_eq}
use Rattle.tokens.proofs.HexTexts.{padded_hex}
use Rattle.tokens.proofs.hex.HexDisplay.fmt.Goals as goal

pub returns-clause-writes : goal.returns-clause-writes
returns-clause-writes g c =
    let t = g.T.Numeral in
    let told = c.to_u64-number.ensures in
    let same = padded_hex t.DIGITS (t.value c.args.self.now.0) t.MOST c.DIGITS-width.result c.to_u64-number.result c.DIGITS-width.ensures told.number told.within g.met.T.Numeral.whole in
    λ plain ok. has_written_of_eq _ _ _ _ _ same ((rw (c.laid_out.ensures, c.in_radix.ensures) at c.write.ensures.writes) plain ok)
