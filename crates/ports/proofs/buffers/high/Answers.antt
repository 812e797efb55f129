use Rattle.std.proofs.Common.{rules}
use Rattle.ports.proofs.Shifts.{few_high}
use Rattle.ports.proofs.buffers.high.Goals as goal

pub returns-clause-few : goal.returns-clause-few
returns-clause-few c = let m = few_high c.args.bits c.args.word c.requires c.ranges.word.fits in search rules
