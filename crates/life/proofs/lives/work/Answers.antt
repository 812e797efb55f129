use Rattle.std.proofs.Common.{◌≡◌, ◌+◌, ◌++◌, get_or, drop, sym, refl, ap, ◌∙◌, arith}
use Rattle.life.proofs.Complete.{walks_complete}
use Rattle.life.proofs.Turns.{lived_next, replies_next, same_state}
use Rattle.life.specs.declared.calls.Call.TheVariants.{OnRow}
use Rattle.life.specs.declared.calls.RowCall.TheVariants.{Read}
use Rattle.life.specs.Meaning.{after, lived, replies, state_of}
use Rattle.std.proofs.lemmas.List.{append_assoc, append-nil, drop_all}
use Rattle.std.proofs.lemmas.Result.{err_from_is_err_and}
use Rattle.life.proofs.lives.work.Goals as goal

pub returns-in_err-answers : goal.returns-in_err-answers
returns-in_err-answers g c =
    let p = err_from_is_err_and c.from_residual.result c.from_residual.ensures.1 in
    rw p.1 record { answers = tt; state = refl; walks = walks_complete _ _; frame = g.T.Table.same _ }

pub loop-call-init : goal.loop-call-init
loop-call-init g c =
    let made = c.in_ok-answers.ensures in
    (omega arith, made.len, made.capacity, rw made.items refl, refl, g.T.Table.same _)

pub loop-call-preserved : goal.loop-call-preserved
loop-call-preserved g c =
    let cs = c.args.calls.now in
    let i = c.loop-call.call-index in
    let was = state_of g.T.Table c.loop-call.processor in
    let call = get_or cs i (OnRow (Read 0 0)) in
    let lt = c.loop-call-test.true in
    let inv = c.loop-call.invariant in
    let did = c.perform.ensures in
    let now : state_of g.T.Table c.perform.new.processor ≡ after was call = same_state _ _ did.width did.rows did.registers in (
      omega arith,
      c.push_reserved.ensures.len ∙ ap (λ n. n + 1) inv.1,
      rw c.push_reserved.ensures.capacity inv.2,
      rw (c.push_reserved.ensures.items, now, did.answer, append_assoc) (ap (λ rs. c.loop-call.answers.items ++ rs) (replies_next was cs i (OnRow (Read 0 0)) lt) ∙ inv.3),
      ap (λ st. lived st (drop (i + 1) cs)) now ∙ lived_next was cs i (OnRow (Read 0 0)) lt ∙ inv.4,
      g.T.Table.chain _ _ _ inv.5 did.frame,
    )

pub returns : goal.returns
unfolding lived replies
returns g c =
    let inv = c.loop-call.invariant in
    let none = drop_all c.loop-call.call-index c.args.calls.now c.loop-call-test.false in
    record {
      answers = sym (append-nil c.loop-call.answers.items) ∙ ap (λ cs. c.loop-call.answers.items ++ replies (state_of g.T.Table c.loop-call.processor) cs) (sym none) ∙ inv.3;
      state = ap (lived (state_of g.T.Table c.loop-call.processor)) (sym none) ∙ inv.4;
      walks = walks_complete _ _;
      frame = inv.5;
    }
