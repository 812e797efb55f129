use Rattle.std.proofs.Common.{get_or, None, ◌∙◌, sym, ap, arith, refl}
use Rattle.life.proofs.Complete.{walks_complete}
use Rattle.life.specs.Meaning.{state_of}
use Rattle.life.specs.declared.calls.Call.TheVariants.{OnRow}
use Rattle.life.specs.declared.calls.RowCall.TheVariants.{Read}
use Rattle.listing.specs.declared.asks.Ask.TheVariants.{Call as Work}
use Rattle.listing.specs.declared.listings.Entry.{Entry}
use Rattle.record.specs.Asks.{after_ask}
use Rattle.record.proofs.Asked.{asked_more, asked_none}
use Rattle.record.proofs.holding.hold.Goals as goal

pub loop-entry-init : goal.loop-entry-init
loop-entry-init g c =
    (omega arith, sym (asked_none (state_of g.T.Table c.args.processor.now) c.args.entries.now), refl)

pub loop-entry-preserved : goal.loop-entry-preserved
loop-entry-preserved g c =
    let s = state_of g.T.Table c.args.processor.now in
    let (_, lived_so_far, name) = c.loop-entry.invariant in
    let none : Entry = record { number = 0; line = record { ask = Work (OnRow (Read 0 0)); answer = None } } in
    let asked = (get_or c.args.entries.now c.loop-entry.entry-index none).line.ask in (
      omega arith,
      c.in_ok-verdict.ensures.state ∙ ap (λ st. after_ask st asked) lived_so_far
          ∙ sym (asked_more s c.args.entries.now c.loop-entry.entry-index none c.loop-entry-test.true),
      c.in_ok-verdict.ensures.same ∙ name,
    )

pub returns-in_err-verdict-clause-walks : goal.returns-in_err-verdict-clause-walks
returns-in_err-verdict-clause-walks g c = walks_complete _ _

pub returns-clause-walks : goal.returns-clause-walks
returns-clause-walks g c = walks_complete _ _
