use Rattle.std.proofs.Common.{◌≡◌, ◌≤◌, length, take}
use Rattle.life.specs.Meaning.{lived, state_of}
use Rattle.record.specs.Asks.{calls_of}
use Rattle.record.proofs.holding.hold.Given as goal

abbrev pub invariant-loop-entry : goal.invariant-loop-entry
invariant-loop-entry g l =
    let t = g.T.Table in
    let work = l.work.processor in
    let start = l.initial.work.processor in
    (l.entry-index ≤ length l.entries)
    × (state_of t work.now ≡ lived (state_of t start.now) (calls_of (take l.entry-index l.entries)))
    × (work.ghost_name ≡ start.ghost_name)
