use Rattle.std.proofs.Common.{◌≡◌, ℕ, ◌<◌, get_or}
use Rattle.flags.specs.Cuts.{flag_up_to}
use Rattle.flags.specs.Laws.{Lasting}
use Rattle.flags.proofs.call.hand_on.Given as goal

abbrev pub invariant-loop-member : goal.invariant-loop-member
invariant-loop-member g l =
    let flag = g.K.FlagKind.flag_of in
    let rs = g.T.Table.rows l.table in
    Lasting flag rs 0 (get_or l.members.starts.now l.member l.members.depth) (record { flag = l.so_far.0; until = l.so_far.1.0 })
    × ((k : ℕ) → k < l.member → get_or l.out k g.K.FlagKind.none ≡ flag_up_to flag rs l.members.starts.now k)
