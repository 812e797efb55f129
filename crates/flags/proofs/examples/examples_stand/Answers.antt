use Rattle.std.proofs.Common.{refl}
use Rattle.flags.specs.Cuts.{first_break, flags_so_far}
use Rattle.flags.specs.Kinds.{full_from, hits_from}
use Rattle.flags.proofs.examples.examples_stand.Goals as goal

pub returns : goal.returns
unfolding first_break flags_so_far full_from hits_from
returns c = record { hits = (refl, refl); full = (refl, refl); cuts = (refl, refl, refl, refl, refl, refl, refl, refl) }
