use Rattle.std.proofs.Common.{refl}
use Rattle.fence.specs.Shown.{shown}
use Rattle.flags.specs.Cuts.{flags_so_far}
use Rattle.flags.specs.Kinds.{full_from, hits_from}
use Rattle.join.specs.Joined.{join_rows}
use Rattle.life.specs.Meaning.{replies}
use Rattle.sums.specs.Sums.{Sums}
use Rattle.table.specs.Calls.{first, on_cell, on_row, on_segment}
use Rattle.sums.proofs.lists.sums_stand.Goals as goal

sums : Sums
unfolding shown flags_so_far full_from hits_from join_rows replies first on_cell on_row on_segment
sums = record {
  depths = (refl, refl, refl);
  widths = (refl, refl, refl);
  memory = (refl, refl);
  keys = record { none = refl; one = refl; two = refl; three = refl };
  hits = refl;
  steps = refl;
  walked = refl;
  joined = (refl, refl);
  refused = (refl, refl);
  fenced = (refl, refl);
  flagged = (refl, refl);
}

pub returns : goal.returns
returns c = record { all = sums }
