use Rattle.std.proofs.Common.{◌≡◌, ℕ, ◌+◌, ◌<◌, ◌≤◌, length, get_or, set, sym, subst, arith}
use Rattle.flags.specs.Cuts.{end_of, flag_up_to, flags_so_far}
use Rattle.flags.specs.Laws.{Lasting}
use Rattle.flags.proofs.HandedOn.{handed_none, handed_told}
use Rattle.std.proofs.lemmas.List.Edits.{fill_by_more}
use Rattle.std.proofs.lemmas.List.FromFn.{fill_by_all}
use Rattle.flags.proofs.call.hand_on.Goals as goal

pub loop-member-init : goal.loop-member-init
loop-member-init g c =
    (rw (c.nothing.ensures.answer, c.args.members.now.cut.first) (handed_none g.K.FlagKind.laws (g.T.Table.rows c.args.table.now)), λ k lt. absurd (omega arith))

pub loop-member-preserved : goal.loop-member-preserved
loop-member-preserved g c =
    let k = g.K.FlagKind in
    let rs = g.T.Table.rows c.args.table.now in
    let members = c.args.members.now in
    let cut = members.starts.now in
    let member = c.loop-member.member in
    let lt : member < length cut = omega (arith, c.requires.out) in
    let is-end : c.end_of.result ≡ end_of cut members.depth member = c.end_of.ensures.answer in
    let rising : get_or cut member members.depth ≤ c.end_of.result = rw is-end (members.cut.rising member lt) in
    let within : c.end_of.result ≤ length rs = rw (is-end, ← c.requires.depth) (members.cut.within member lt) in
    let next : Lasting k.flag_of rs 0 (end_of cut members.depth member) c.carried-so_far.result =
    rw (← is-end) (c.carried-so_far.ensures.answer _ c.loop-member.invariant.0 rising within) in
    let told = handed_told k.laws rs cut member c.carried-so_far.result (rw (← c.requires.depth) next) in
    let so_far = fill_by_more (flag_up_to k.flag_of rs cut) c.loop-member.out member k.none (omega arith) c.loop-member.invariant.1 in
    (next, subst (λ x. (j : ℕ) → j < member + 1 → get_or (set c.loop-member.out member x) j k.none ≡ flag_up_to k.flag_of rs cut j) (sym told) so_far)

pub returns : goal.returns
unfolding flags_so_far
returns g c =
    let told = c.loop-member.invariant.1 in
    record { out = fill_by_all _ c.loop-member.out _ g.K.FlagKind.none (omega (arith, c.requires.out)) (λ k lt. told k (omega (arith, c.requires.out))) }
