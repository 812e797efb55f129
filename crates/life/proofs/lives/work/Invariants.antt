use Rattle.std.proofs.Common.{◌≡◌, ◌≤◌, ◌++◌, length, drop, vec_items, vec_len, vec_capacity}
use Rattle.life.specs.Meaning.{lived, replies, state_of}
use Rattle.life.proofs.lives.work.Given as goal

abbrev pub invariant-loop-call : goal.invariant-loop-call
invariant-loop-call g l =
    let t = g.T.Table in
    let was = state_of t l.initial.processor in
    let now = state_of t l.processor in
    (l.call-index ≤ length l.calls)
    × (vec_len l.answers ≡ l.call-index)
    × (length l.calls ≤ vec_capacity l.answers)
    × (vec_items l.answers ++ replies now (drop l.call-index l.calls) ≡ replies was l.calls)
    × (lived now (drop l.call-index l.calls) ≡ lived was l.calls)
    × t.frame l.initial.processor.table l.processor.table
