-- One call more in a life. Assumes nothing.
use Rattle.std.proofs.Common.{◌≡◌, ℕ, ◌+◌, ◌<◌, List, ◌∷◌, length, get_or, drop, sym, ap, ◌∙◌}
use Rattle.life.specs.Meaning.{State, after, lived, replies, reply_to}
use Rattle.life.specs.declared.calls.Call.{Call}
use Rattle.registers.specs.declared.state.Registers.{Registers}
use Rattle.std.proofs.lemmas.List.{drop_more}
use Rattle.table.specs.Row.{Row}

pub same_state : (s t : State) → s.width ≡ t.width → s.rows ≡ t.rows → s.registers ≡ t.registers → s ≡ t
same_state s t e f g =
    ap (λ w. of w s.rows s.registers) e ∙ ap (λ rs. of t.width rs s.registers) f ∙ ap (of t.width t.rows) g
  where
    of : ℕ → List Row → Registers → State
    of w rs r = record { width = w; rows = rs; registers = r }

-- the calls that are left, after one of them
module _ (s : State) (cs : List Call) (i : ℕ) (d : Call) (lt : i < length cs) where
  pub lived_next : lived (after s (get_or cs i d)) (drop (i + 1) cs) ≡ lived s (drop i cs)
  unfolding lived
  lived_next = sym (ap (lived s) (drop_more cs i d lt))

  pub replies_next : reply_to s (get_or cs i d) ∷ replies (after s (get_or cs i d)) (drop (i + 1) cs) ≡ replies s (drop i cs)
  unfolding replies
  replies_next = sym (ap (replies s) (drop_more cs i d lt))
