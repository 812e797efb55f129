-- What a block that comes into the input port answers and leaves. Assumes nothing.
--   step_at            the input step that is next
--   filled             the buffers once the block has come in, if its take bit is set
--   asked              the search of a step, its key cut from the buffers
--   asks               the search that a block runs, if it runs one
--   …_answer, …_left   the answer, and the registers after a block that was not refused
use Rattle.std.specs.Prelude.{ℕ, ◌+◌, ◌^◌, Bool, cond, List, map, Some, None, Ok, Err, Option, Result, nat_lt, slice_set}
use Rattle.ports.specs.Blocks.{bit_of, bits_of, key_at, shifted_in}
use Rattle.ports.specs.Faults.{at_step}
use Rattle.ports.specs.declared.faults.PortFault.{PortFault}
use Rattle.ports.specs.declared.faults.PortFault.TheVariants.{NotStarted as NothingStarted, TooWide, BlocksGone}
use Rattle.ports.specs.declared.input.BlockAnswer.{BlockAnswer}
use Rattle.ports.specs.declared.input.BlockAnswer.TheVariants.{Ignored, Taken, Searched}
use Rattle.processor.specs.Commands.{command}
use Rattle.processor.specs.Walks.{found_in, with_found}
use Rattle.registers.specs.Setting.{channel_of}
use Rattle.registers.specs.Start.{input_step_of, with_input}
use Rattle.registers.specs.declared.setting.ChannelSetUp.{ChannelSetUp}
use Rattle.registers.specs.declared.setting.InputStep.{InputStep}
use Rattle.registers.specs.declared.state.Buffers.{Buffers}
use Rattle.registers.specs.declared.state.Input.{Input}
use Rattle.registers.specs.declared.state.InputPlace.{InputPlace}
use Rattle.registers.specs.declared.state.Registers.{Registers}
use Rattle.registers.specs.declared.state.Sequence.{Sequence}
use Rattle.registers.specs.declared.state.Sequence.TheVariants.{NotStarted, Open, Ended}
use Rattle.table.specs.Calls.{on_segment}
use Rattle.table.specs.Row.{Row, searched}
use Rattle.table.specs.declared.parts.Search.{Search}

abbrev pub channel_in : Registers → ChannelSetUp
channel_in g = channel_of g.setup g.input.channel

abbrev pub step_at : Registers → InputPlace → InputStep
step_at g place = input_step_of (channel_in g) place.step

abbrev pub filled : Registers → InputPlace → ℕ → Buffers
filled g place value =
    cond (bit_of (channel_in g).take place.block) (shifted_in (bits_of g.setup.width) value g.input.buffers) g.input.buffers

abbrev pub asked : InputStep → Buffers → Search
asked step b = record { key = key_at step.shift b; mask = step.mask; segment = step.segment; head = step.head; access = step.access }

abbrev pub runs : Registers → InputPlace → Bool
runs g place = bit_of (channel_in g).start place.block

-- a block with no search: the buffers, and one block more is gone
abbrev pub taken_input : InputPlace → Buffers → Input → Input
taken_input place b i = record { channel = i.channel; keys = i.keys; hits = i.hits; buffers = b; sequence = Open (record { step = place.step; block = place.block + 1 }) }

-- a step with the end flag ends the sequence, else the next step follows
abbrev pub following : InputStep → InputPlace → Sequence InputPlace
following step place = cond step.end Ended (Open (record { step = place.step + 1; block = place.block + 1 }))

abbrev pub searched_input : InputStep → InputPlace → Buffers → ℕ → Bool → Input → Input
searched_input step place b key hit i =
    record { channel = i.channel; keys = slice_set i.keys place.step key; hits = slice_set i.hits place.step hit; buffers = b; sequence = following step place }

abbrev pub step_answer : ℕ → Registers → InputPlace → Result BlockAnswer PortFault
step_answer w g place = at_step place.step (command (on_segment w (step_at g place).segment Searched))

-- the registers after the step's search left these rows
abbrev pub step_left : List Row → Registers → InputPlace → Buffers → Registers
step_left rs g place b = with_found (found_in rs) (with_input (searched_input (step_at g place) place b (asked (step_at g place) b).key (found_in rs).hit g.input) g)

abbrev pub open_answer : ℕ → Registers → InputPlace → ℕ → Result BlockAnswer PortFault
open_answer w g place value =
    cond (nat_lt value (2 ^ bits_of g.setup.width))
    (cond (nat_lt place.block 64) (cond (runs g place) (step_answer w g place) (Ok Taken)) (Err (BlocksGone place.step)))
    (Err (TooWide place.step))

abbrev pub open_asks : Registers → InputPlace → ℕ → Option Search
open_asks g place value = cond (runs g place) (Some (asked (step_at g place) (filled g place value))) None

-- the rows after a search, if there was one
abbrev pub ran : Option Search → List Row → List Row
ran None rs = rs
ran (Some query) rs = map (searched query) rs

abbrev pub open_left : List Row → Registers → InputPlace → ℕ → Registers
open_left rs g place value =
    cond (runs g place) (step_left (ran (open_asks g place value) rs) g place (filled g place value)) (with_input (taken_input place (filled g place value) g.input) g)

-- there is no ninth step: a sequence that is past the eighth has ended
abbrev pub block_answer : ℕ → Registers → ℕ → Sequence InputPlace → Result BlockAnswer PortFault
block_answer w g value NotStarted = Err NothingStarted
block_answer w g value Ended = Ok Ignored
block_answer w g value (Open place) = cond (nat_lt place.step 8) (open_answer w g place value) (Ok Ignored)

abbrev pub block_asks : Registers → ℕ → Sequence InputPlace → Option Search
block_asks g value NotStarted = None
block_asks g value Ended = None
block_asks g value (Open place) = cond (nat_lt place.step 8) (open_asks g place value) None

abbrev pub block_left : List Row → Registers → ℕ → Sequence InputPlace → Registers
block_left rs g value NotStarted = g
block_left rs g value Ended = g
block_left rs g value (Open place) = cond (nat_lt place.step 8) (open_left rs g place value) g
