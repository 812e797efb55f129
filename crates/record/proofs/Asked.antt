-- One line more of a listing: what it does to a processor is what the calls of it do. Assumes nothing.
use Rattle.std.proofs.Common.{◌≡◌, ℕ, ◌+◌, ◌<◌, List, [], ◌∷◌, ◌++◌, length, get_or, take, append_assoc, refl, ap, ◌∙◌}
use Rattle.life.specs.Meaning.{State, after, lived}
use Rattle.life.specs.declared.calls.Call.{Call}
use Rattle.listing.specs.declared.asks.Ask.{Ask}
use Rattle.listing.specs.declared.asks.Ask.TheVariants.{Call as Work, Register, Row, Rows, Flags}
use Rattle.listing.specs.declared.listings.Entry.{Entry}
use Rattle.record.specs.Asks.{after_ask, call_in, calls_of}
use Rattle.std.proofs.lemmas.List.{append-nil, take_more}

lived-append : (s : State) (cs ds : List Call) → lived s (cs ++ ds) ≡ lived (lived s cs) ds
unfolding lived
lived-append s [] ds = refl
lived-append s (c ∷ cs) ds = lived-append (after s c) cs ds

lived_ask : (s : State) (a : Ask) → lived s (call_in a) ≡ after_ask s a
unfolding lived
lived_ask s (Work c) = refl
lived_ask s (Register r) = refl
lived_ask s (Row n) = refl
lived_ask s (Rows from count) = refl
lived_ask s (Flags kind starts) = refl

calls_of_push : (es : List Entry) (e : Entry) → calls_of (es ++ e ∷ []) ≡ calls_of es ++ call_in e.line.ask
unfolding calls_of
calls_of_push [] e = append-nil (call_in e.line.ask)
calls_of_push (d ∷ es) e = rw append_assoc (ap (λ xs. call_in d.line.ask ++ xs) (calls_of_push es e))

pub asked_none : (s : State) (es : List Entry) → lived s (calls_of (take 0 es)) ≡ s
unfolding lived calls_of
asked_none s es = refl

module _ (s : State) (es : List Entry) (i : ℕ) (d : Entry) (lt : i < length es) where
  pub asked_more : lived s (calls_of (take (i + 1) es)) ≡ after_ask (lived s (calls_of (take i es))) (get_or es i d).line.ask
  asked_more =
      ap (λ xs. lived s (calls_of xs)) (take_more es i d lt)
      ∙ ap (lived s) (calls_of_push (take i es) (get_or es i d))
      ∙ lived-append s (calls_of (take i es)) (call_in (get_or es i d).line.ask)
      ∙ lived_ask (lived s (calls_of (take i es))) (get_or es i d).line.ask
