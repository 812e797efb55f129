-- What starting and stopping a port answers and leaves. Assumes nothing.
--   some_ends       some step, the n-th or a later one, has the end flag
use Rattle.std.specs.Prelude.{ℕ, zero, suc, Bool, false, cond, ◌||◌, List, [], ◌∷◌, replicate, Ok, Err, Result, slice_index_or}
use Rattle.registers.specs.Fresh.{empty_buffers, fresh_input_step, fresh_output_step}
use Rattle.registers.specs.Setting.{channel_of, numbered, within}
use Rattle.registers.specs.declared.faults.StartFault.{StartFault}
use Rattle.registers.specs.declared.faults.StartFault.TheVariants.{OutOfRange, NoHead, NoEnd}
use Rattle.registers.specs.declared.setting.ChannelSetUp.{ChannelSetUp}
use Rattle.registers.specs.declared.setting.InputStep.{InputStep}
use Rattle.registers.specs.declared.setting.OutputStep.{OutputStep}
use Rattle.registers.specs.declared.state.Input.{Input}
use Rattle.registers.specs.declared.state.OutputPlace.{OutputPlace}
use Rattle.registers.specs.declared.state.Registers.{Registers}
use Rattle.registers.specs.declared.state.Sequence.{Sequence}
use Rattle.registers.specs.declared.state.Sequence.TheVariants.{NotStarted, Open}

unfoldable pub some_ends : {S : Type 0} → (S → Bool) → List S → ℕ → Bool
some_ends ends [] n = false
some_ends ends (step ∷ steps) zero = ends step || some_ends ends steps zero
some_ends ends (step ∷ steps) (suc n) = some_ends ends steps n

abbrev pub input_ends : InputStep → Bool
input_ends step = step.end

abbrev pub output_ends : OutputStep → Bool
output_ends step = step.end

abbrev pub input_step_of : ChannelSetUp → ℕ → InputStep
input_step_of c n = slice_index_or c.inputs n fresh_input_step

abbrev pub output_step_of : ChannelSetUp → ℕ → OutputStep
output_step_of c n = slice_index_or c.outputs n fresh_output_step

abbrev pub with_input : Input → Registers → Registers
with_input i g = record { found = g.found; empty = g.empty; input = i; output = g.output; setup = g.setup }

abbrev pub with_output : Sequence OutputPlace → Registers → Registers
with_output s g = record { found = g.found; empty = g.empty; input = g.input; output = s; setup = g.setup }

-- an end flag is wanted from the first step on
abbrev pub ending : {S : Type 0} → (S → Bool) → List S → ℕ → Result (Unit {0}) StartFault
ending ends steps n = cond (some_ends ends steps n) (Ok tt) (Err NoEnd)

abbrev pub input_checked : ℕ → ℕ → Registers → Result (Unit {0}) StartFault
input_checked channel step g =
    within OutOfRange channel 2 (within OutOfRange step 8 (cond (input_step_of (channel_of g.setup (numbered channel)) step).head
    (ending input_ends (channel_of g.setup (numbered channel)).inputs step) (Err NoHead)))

-- the buffers and the step hits begin at 0; the keys stay
abbrev pub input_started : ℕ → ℕ → Registers → Registers
input_started channel step g =
    with_input (record { channel = numbered channel; keys = g.input.keys; hits = replicate 8 false; buffers = empty_buffers; sequence = Open (record { step = step; block = 0 }) }) g

abbrev pub output_checked : ℕ → ℕ → Registers → Result (Unit {0}) StartFault
output_checked channel step g =
    within OutOfRange channel 2 (within OutOfRange step 8 (ending output_ends (channel_of g.setup (numbered channel)).outputs step))

abbrev pub output_started : ℕ → ℕ → Registers → Registers
output_started channel step g = with_output (Open (record { channel = numbered channel; step = step })) g

-- both sequences are as if never started
abbrev pub stopped : Registers → Registers
stopped g =
    with_output NotStarted (with_input (record { channel = g.input.channel; keys = g.input.keys; hits = replicate 8 false; buffers = g.input.buffers; sequence = NotStarted }) g)
