-- No sequence runs past the steps of its channel: each call keeps an end flag before it. Assumes nothing.
use Rattle.std.proofs.Common.{◌≡◌, ℕ, ◌+◌, ◌<◌, Bool, true, false, cond, ltb, List, length, get_or, Ok, Err, Option, Result, refl, ap, ◌∙◌, subst, add-one, arith}
use Rattle.ports.specs.Ahead.{Ahead, InputAhead, OutputAhead, StaysAhead}
use Rattle.ports.specs.Input.{block_left, channel_in, filled, following, open_asks, open_left, ran, runs, step_at, step_left, taken_input}
use Rattle.ports.specs.Output.{output_step_at, word_following, word_left}
use Rattle.processor.specs.Walks.{with_empty, with_found}
use Rattle.registers.proofs.Ends.{some_ends_past, some_ends_step}
use Rattle.registers.specs.Fresh.{fresh_input_step, fresh_output_step}
use Rattle.registers.specs.Setting.{blocks_set, channel_of, closed, input_step_checked, input_step_set, item_within, numbered, output_step_checked, output_step_set, width_set, with_blocks, with_channel, with_input_step, with_output_step}
use Rattle.registers.specs.Start.{input_checked, input_ends, input_started, output_checked, output_ends, output_started, some_ends, with_input, with_output}
use Rattle.registers.specs.declared.faults.SetUpFault.{SetUpFault}
use Rattle.registers.specs.declared.faults.SetUpFault.TheVariants.{OutOfRange}
use Rattle.registers.specs.declared.setting.Channel.{Channel}
use Rattle.registers.specs.declared.setting.Channel.TheVariants.{A, B}
use Rattle.registers.specs.declared.setting.ChannelSetUp.{ChannelSetUp}
use Rattle.registers.specs.declared.setting.InputStep.{InputStep}
use Rattle.registers.specs.declared.setting.Item.{Item}
use Rattle.registers.specs.declared.setting.Item.TheVariants.{Key, Status, Address, Segment}
use Rattle.registers.specs.declared.setting.OutputStep.{OutputStep}
use Rattle.registers.specs.declared.setting.SetUp.{SetUp}
use Rattle.registers.specs.declared.state.Found.{Found}
use Rattle.registers.specs.declared.state.InputPlace.{InputPlace}
use Rattle.registers.specs.declared.state.OutputPlace.{OutputPlace}
use Rattle.registers.specs.declared.state.Registers.{Registers}
use Rattle.registers.specs.declared.state.Sequence.{Sequence}
use Rattle.registers.specs.declared.state.Sequence.TheVariants.{NotStarted, Open, Ended}
use Rattle.table.specs.Row.{Row}

-- what a granted check passed
module _ {X F : Type 0} (x : X) where
  cond_ok : (b : Bool) (r : Result X F) (e : F) → cond b r (Err e) ≡ Ok x → (b ≡ true) × (r ≡ Ok x)
  cond_ok true r e h = (refl, h)
  cond_ok false r e h = (cc, cc)

  refused_not_ok : (e : F) → ◌≡◌ {A = Result X F} (Err e) (Ok x) → ⊥
  refused_not_ok e h = cc

-- a granted item was within its range
item_ok : (item : Item) (r : Result (Unit {0}) SetUpFault) → item_within OutOfRange item r ≡ Ok tt → r ≡ Ok tt
item_ok (Key i) r e = (cond_ok tt (ltb i 8) r (OutOfRange i) e).1
item_ok Status r e = e
item_ok Address r e = e
item_ok (Segment s) r e = (cond_ok tt (ltb s 8) r (OutOfRange s) e).1

-- steps with an end flag ahead
module _ {S : Type 0} (ends : S → Bool) (steps : List S) (n : ℕ) (h : some_ends ends steps n ≡ true) where
  ahead_within : n < length steps
  ahead_within = grind (arith, some_ends_past)

  ahead_next : (d : S) → ends (get_or steps n d) ≡ false → some_ends ends steps (n + 1) ≡ true
  ahead_next d e = rw add-one (grind (arith, some_ends_step ends d steps n ahead_within))

-- the steps of a channel, after the set-up of one channel was changed
module _ (f : ChannelSetUp → ChannelSetUp) (s : SetUp) where
  inputs_kept : ((c : ChannelSetUp) → (f c).inputs ≡ c.inputs) → (ch at : Channel) → (channel_of (with_channel ch (f (channel_of s ch)) s) at).inputs ≡ (channel_of s at).inputs
  inputs_kept same A A = same s.a
  inputs_kept same A B = refl
  inputs_kept same B A = refl
  inputs_kept same B B = same s.b

  outputs_kept : ((c : ChannelSetUp) → (f c).outputs ≡ c.outputs) → (ch at : Channel) → (channel_of (with_channel ch (f (channel_of s ch)) s) at).outputs ≡ (channel_of s at).outputs
  outputs_kept same A A = same s.a
  outputs_kept same A B = refl
  outputs_kept same B A = refl
  outputs_kept same B B = same s.b

module _ (g g' : Registers) where
  input_kept : (channel_in g').inputs ≡ (channel_in g).inputs → (s : Sequence InputPlace) → InputAhead g s → InputAhead g' s
  input_kept e NotStarted h = tt
  input_kept e Ended h = tt
  input_kept e (Open place) h = ap (λ (steps : List InputStep). some_ends input_ends steps place.step) e ∙ h

  output_kept : ((ch : Channel) → (channel_of g'.setup ch).outputs ≡ (channel_of g.setup ch).outputs) → (s : Sequence OutputPlace) → OutputAhead g s → OutputAhead g' s
  output_kept e NotStarted h = tt
  output_kept e Ended h = tt
  output_kept e (Open place) h = ap (λ (steps : List OutputStep). some_ends output_ends steps place.step) (e place.channel) ∙ h

  input_closed : (s : Sequence InputPlace) → closed s ≡ Ok tt → InputAhead g' s
  input_closed NotStarted e = tt
  input_closed Ended e = tt
  input_closed (Open place) e = absurd (refused_not_ok tt _ e)

  output_closed : (s : Sequence OutputPlace) → closed s ≡ Ok tt → OutputAhead g' s
  output_closed NotStarted e = tt
  output_closed Ended e = tt
  output_closed (Open place) e = absurd (refused_not_ok tt _ e)

-- the registers after a block that ran its step's search, and after one that was only taken
abbrev step_to : List Row → Registers → InputPlace → ℕ → Registers
step_to rs g place value = step_left (ran (open_asks g place value) rs) g place (filled g place value)

abbrev taken_to : Registers → InputPlace → ℕ → Registers
taken_to g place value = with_input (taken_input place (filled g place value) g.input) g

module _ (g : Registers) (h : Ahead g) where
  after_input_step : (channel step : ℕ) (to : InputStep) → input_step_checked channel step to g ≡ Ok tt → Ahead (input_step_set channel step to g)
  after_input_step channel step to e =
      let e1 = (cond_ok tt (ltb channel 2) _ _ e).1 in
      let e2 = (cond_ok tt (ltb step 8) _ _ e1).1 in
      let e3 = (cond_ok tt (ltb to.shift 4) _ _ e2).1 in
      let e4 = (cond_ok tt (ltb to.segment 8) _ _ e3).1 in
      record {
        input = input_closed g (input_step_set channel step to g) g.input.sequence e4;
        output = output_kept g (input_step_set channel step to g) (outputs_kept (with_input_step step to) g.setup (λ c. refl) (numbered channel)) g.output h.output;
      }

  after_output_step : (channel step : ℕ) (to : OutputStep) → output_step_checked channel step to g ≡ Ok tt → Ahead (output_step_set channel step to g)
  after_output_step channel step to e =
      let e1 = (cond_ok tt (ltb channel 2) _ _ e).1 in
      let e2 = (cond_ok tt (ltb step 8) _ _ e1).1 in
      record {
        input = input_kept g (output_step_set channel step to g) (inputs_kept (with_output_step step to) g.setup (λ c. refl) (numbered channel) g.input.channel) g.input.sequence h.input;
        output = output_closed g (output_step_set channel step to g) g.output (item_ok to.item (closed g.output) e2);
      }

  after_blocks : (channel take start : ℕ) → Ahead (blocks_set channel take start g)
  after_blocks channel take start = record {
    input = input_kept g (blocks_set channel take start g) (inputs_kept (with_blocks take start) g.setup (λ c. refl) (numbered channel) g.input.channel) g.input.sequence h.input;
    output = output_kept g (blocks_set channel take start g) (outputs_kept (with_blocks take start) g.setup (λ c. refl) (numbered channel)) g.output h.output;
  }

  after_width : (bits : ℕ) → Ahead (width_set bits g)
  after_width bits = record {
    input = input_kept g (width_set bits g) (same_inputs g.input.channel) g.input.sequence h.input;
    output = output_kept g (width_set bits g) same_outputs g.output h.output;
  }
    where
      same_inputs : (ch : Channel) → (channel_of (width_set bits g).setup ch).inputs ≡ (channel_of g.setup ch).inputs
      same_inputs A = refl
      same_inputs B = refl

      same_outputs : (ch : Channel) → (channel_of (width_set bits g).setup ch).outputs ≡ (channel_of g.setup ch).outputs
      same_outputs A = refl
      same_outputs B = refl

  after_input_start : (channel step : ℕ) → input_checked channel step g ≡ Ok tt → Ahead (input_started channel step g)
  after_input_start channel step e =
      let e1 = (cond_ok tt (ltb channel 2) _ _ e).1 in
      let e2 = (cond_ok tt (ltb step 8) _ _ e1).1 in
      let e3 = (cond_ok tt _ _ _ e2).1 in
      record {
        input = (cond_ok tt _ _ _ e3).0;
        output = output_kept g (input_started channel step g) (λ ch. refl) g.output h.output;
      }

  after_output_start : (channel step : ℕ) → output_checked channel step g ≡ Ok tt → Ahead (output_started channel step g)
  after_output_start channel step e =
      let e1 = (cond_ok tt (ltb channel 2) _ _ e).1 in
      let e2 = (cond_ok tt (ltb step 8) _ _ e1).1 in
      record {
        input = input_kept g (output_started channel step g) refl g.input.sequence h.input;
        output = (cond_ok tt _ _ _ e2).0;
      }

  after_found : (found : Found) → Ahead (with_found found g)
  after_found found = record {
    input = input_kept g (with_found found g) refl g.input.sequence h.input;
    output = output_kept g (with_found found g) (λ ch. refl) g.output h.output;
  }

  after_empty : (empty : Option ℕ) → Ahead (with_empty empty g)
  after_empty empty = record {
    input = input_kept g (with_empty empty g) refl g.input.sequence h.input;
    output = output_kept g (with_empty empty g) (λ ch. refl) g.output h.output;
  }

  after_block : (rs : List Row) (value : ℕ) (s : Sequence InputPlace) → InputAhead g s → Ahead (block_left rs g value s)
  after_block rs value NotStarted i = h
  after_block rs value Ended i = h
  after_block rs value (Open place) i = by_test (ltb place.step 8)
    where
      -- the step ended, or its end flag is still ahead
      next : (b : Bool) → (step_at g place).end ≡ b → InputAhead g (cond b Ended (Open (record { step = place.step + 1; block = place.block + 1 })))
      next true e = tt
      next false e = ahead_next input_ends (channel_in g).inputs place.step i fresh_input_step e

      by_run : (b : Bool) → Ahead (cond b (step_to rs g place value) (taken_to g place value))
      by_run true = record {
        input = input_kept g (step_to rs g place value) refl (following (step_at g place) place) (next (step_at g place).end refl);
        output = output_kept g (step_to rs g place value) (λ ch. refl) g.output h.output;
      }
      by_run false = record { input = i; output = output_kept g (taken_to g place value) (λ ch. refl) g.output h.output }

      by_test : (b : Bool) → Ahead (cond b (open_left rs g place value) g)
      by_test true = by_run (runs g place)
      by_test false = h

  after-word : (s : Sequence OutputPlace) → OutputAhead g s → Ahead (word_left g s)
  after-word NotStarted o = h
  after-word Ended o = h
  after-word (Open place) o = by_test (ltb place.step 8)
    where
      next : (b : Bool) → (output_step_at g place).end ≡ b → OutputAhead g (cond b Ended (Open (record { channel = place.channel; step = place.step + 1 })))
      next true e = tt
      next false e = ahead_next output_ends (channel_of g.setup place.channel).outputs place.step o fresh_output_step e

      by_test : (b : Bool) → Ahead (cond b (with_output (word_following (output_step_at g place) place) g) g)
      by_test true = record {
        input = input_kept g (with_output (word_following (output_step_at g place) place) g) refl g.input.sequence h.input;
        output = output_kept g (with_output (word_following (output_step_at g place) place) g) (λ ch. refl) (word_following (output_step_at g place) place) (next (output_step_at g place).end refl);
      }
      by_test false = h

-- the next step of an open sequence is one of its channel's
input_place : (g : Registers) (place : InputPlace) (s : Sequence InputPlace) → InputAhead g s → s ≡ Open place → place.step < length (channel_in g).inputs
input_place g place s i e = ahead_within input_ends (channel_in g).inputs place.step (subst (InputAhead g) e i)

output_place : (g : Registers) (place : OutputPlace) (s : Sequence OutputPlace) → OutputAhead g s → s ≡ Open place → place.step < length (channel_of g.setup place.channel).outputs
output_place g place s o e = ahead_within output_ends (channel_of g.setup place.channel).outputs place.step (subst (OutputAhead g) e o)

pub stays_ahead : StaysAhead
stays_ahead = record {
  at_first = record { input = tt; output = tt };
  by_input_step = λ channel step to g e h. after_input_step g h channel step to e;
  by_output_step = λ channel step to g e h. after_output_step g h channel step to e;
  by_blocks = λ channel take start g h. after_blocks g h channel take start;
  by_width = λ bits g h. after_width g h bits;
  by_input_start = λ channel step g e h. after_input_start g h channel step e;
  by_output_start = λ channel step g e h. after_output_start g h channel step e;
  by_stop = λ g. record { input = tt; output = tt };
  by_search = λ found g h. after_found g h found;
  by_empty_walk = λ empty g h. after_empty g h empty;
  by_block = λ rs value g h. after_block g h rs value g.input.sequence h.input;
  by_word = λ g h. after-word g h g.output h.output;
  input_within = λ g place h e. input_place g place g.input.sequence h.input e;
  output_within = λ g place h e. output_place g place g.output h.output e;
}
