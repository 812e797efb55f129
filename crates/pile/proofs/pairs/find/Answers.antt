use Rattle.std.proofs.Common.{rules}
use Rattle.table.proofs.Checks.{segment_granted}
use Rattle.table.proofs.Refusals.{segment_alike}
use Rattle.table.proofs.Told.{segment_told}
use Rattle.pile.proofs.pairs.find.Goals as goal

pub returns-in_err-search : goal.returns-in_err-search
returns-in_err-search g c = search (rules, segment_alike)

pub returns : goal.returns
returns g c = let told = segment_told _ _ _ _ c.in_ok-search.ensures.answer in search (rules, segment_granted)
