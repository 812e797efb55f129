use Rattle.std.proofs.Common.{◌≡◌, length, ap, ◌∙◌}
use Rattle.flags.specs.Cuts.{checked_cut}
use Rattle.life.proofs.Depth.{depth_worked}
use Rattle.life.specs.Meaning.{State}
use Rattle.registers.specs.declared.state.Registers.{Registers}
use Rattle.trial.specs.Pile.{first_state, last_state, state_in}
use Rattle.trial.proofs.trials.run_trial.Goals as goal

pub returns-clause-flags : goal.returns-clause-flags
returns-clause-flags g c =
    let u = g.U.Table in
    let l = g.L.Table in
    let hidden = c.args.hidden in
    let calls = c.args.calls.now in
    let begun = c.new-processor.result in
    let s = first_state u l hidden c.args.upper c.args.lower in
    let pile = c.new-processor.ensures.table ∙ c.new-pile.ensures.answer ∙ ap (λ j. record { hidden = hidden; table = j }) c.new.ensures.answer in
    let first : state_in u l begun ≡ s =
    ap (λ t. state_in u l record { table = t; registers = begun.registers }) pile
    ∙ ap (λ (r : Registers). record { width = s.width; rows = s.rows; registers = r }) c.new-processor.ensures.registers in
    let state = c.work-answers.ensures.state ∙ ap (λ t. last_state c.work-answers.result t calls) first in
    let rows = ap (λ (t : State). t.rows) state in
    c.flags-flags.ensures.answer ∙ ap (λ n. checked_cut (length c.args.out.now) c.args.cut.now n) (ap length rows ∙ depth_worked c.work-answers.result s calls)
