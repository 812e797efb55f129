use Rattle.std.proofs.Common.{rules}
use Rattle.ports.proofs.Shifts.{moved}
use Rattle.ports.proofs.buffers.joined.Goals as goal

pub returns : goal.returns
returns c = let m = moved c.args.bits c.args.upper c.args.lower c.requires.bits c.requires.fits in search rules
