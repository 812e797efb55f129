-- What a set-up call answers and leaves. Assumes nothing.
--   within       a number is checked against its limit before the rest
--   closed       the answer while no sequence, or an open one, stands against it
--   numbered     the channel of a number
--   channel_from, width_from
--                the channel and the width of a block that a number names, if it names one
--   channel_of   the set-up of a channel
--   …_checked    the answer of a set-up call: its numbers in order, then the port's sequence
--   …_set        the registers after a set-up call that was granted
use Rattle.std.specs.Prelude.{ℕ, Bool, true, false, cond, ◌||◌, Ok, Err, Result, ◌==◌, nat_lt, slice_set}
use Rattle.registers.specs.declared.faults.OutOfRange.{OutOfRange as NotOne}
use Rattle.registers.specs.declared.faults.SetUpFault.{SetUpFault}
use Rattle.registers.specs.declared.faults.SetUpFault.TheVariants.{OutOfRange, SequenceOpen}
use Rattle.registers.specs.declared.setting.BlockWidth.{BlockWidth}
use Rattle.registers.specs.declared.setting.BlockWidth.TheVariants.{Eight, Sixteen, ThirtyTwo}
use Rattle.registers.specs.declared.setting.Channel.{Channel}
use Rattle.registers.specs.declared.setting.Channel.TheVariants.{A, B}
use Rattle.registers.specs.declared.setting.ChannelSetUp.{ChannelSetUp}
use Rattle.registers.specs.declared.setting.InputStep.{InputStep}
use Rattle.registers.specs.declared.setting.Item.{Item}
use Rattle.registers.specs.declared.setting.Item.TheVariants.{Key, Status, Address, Segment}
use Rattle.registers.specs.declared.setting.OutputStep.{OutputStep}
use Rattle.registers.specs.declared.setting.SetUp.{SetUp}
use Rattle.registers.specs.declared.state.Registers.{Registers}
use Rattle.registers.specs.declared.state.Sequence.{Sequence}
use Rattle.registers.specs.declared.state.Sequence.TheVariants.{NotStarted, Open, Ended}

abbrev pub within : {F X : Type 0} → (ℕ → F) → ℕ → ℕ → Result X F → Result X F
within refused n limit rest = cond (nat_lt n limit) rest (Err (refused n))

abbrev pub is_open : {P : Type 0} → Sequence P → Bool
is_open NotStarted = false
is_open (Open place) = true
is_open Ended = false

abbrev pub closed : {P : Type 0} → Sequence P → Result (Unit {0}) SetUpFault
closed s = cond (is_open s) (Err SequenceOpen) (Ok tt)

abbrev pub numbered : ℕ → Channel
numbered n = cond (n == 0) A B

abbrev pub not_one : ℕ → NotOne
not_one n = record { 0 = n }

abbrev pub channel_from : ℕ → Result Channel NotOne
channel_from n = within not_one n 2 (Ok (numbered n))

abbrev pub channel_of : SetUp → Channel → ChannelSetUp
channel_of s A = s.a
channel_of s B = s.b

abbrev pub with_channel : Channel → ChannelSetUp → SetUp → SetUp
with_channel A c s = record { a = c; b = s.b; width = s.width }
with_channel B c s = record { a = s.a; b = c; width = s.width }

abbrev pub with_input_step : ℕ → InputStep → ChannelSetUp → ChannelSetUp
with_input_step n to c = record { inputs = slice_set c.inputs n to; take = c.take; start = c.start; outputs = c.outputs }

abbrev pub with_output_step : ℕ → OutputStep → ChannelSetUp → ChannelSetUp
with_output_step n to c = record { inputs = c.inputs; take = c.take; start = c.start; outputs = slice_set c.outputs n to }

abbrev pub with_blocks : ℕ → ℕ → ChannelSetUp → ChannelSetUp
with_blocks take start c = record { inputs = c.inputs; take = take; start = start; outputs = c.outputs }

abbrev pub with_set_up : SetUp → Registers → Registers
with_set_up s g = record { found = g.found; empty = g.empty; input = g.input; output = g.output; setup = s }

-- the registers with one channel's set-up changed
abbrev pub changed_channel : Channel → (ChannelSetUp → ChannelSetUp) → Registers → Registers
changed_channel ch f g = with_set_up (with_channel ch (f (channel_of g.setup ch)) g.setup) g

abbrev pub input_step_checked : ℕ → ℕ → InputStep → Registers → Result (Unit {0}) SetUpFault
input_step_checked channel step to g =
    within OutOfRange channel 2 (within OutOfRange step 8 (within OutOfRange to.shift 4 (within OutOfRange to.segment 8 (closed g.input.sequence))))

abbrev pub input_step_set : ℕ → ℕ → InputStep → Registers → Registers
input_step_set channel step to g = changed_channel (numbered channel) (with_input_step step to) g

abbrev pub blocks_checked : ℕ → Registers → Result (Unit {0}) SetUpFault
blocks_checked channel g = within OutOfRange channel 2 (closed g.input.sequence)

abbrev pub blocks_set : ℕ → ℕ → ℕ → Registers → Registers
blocks_set channel take start g = changed_channel (numbered channel) (with_blocks take start) g

-- a key or a segment is one of eight
abbrev pub item_within : {F X : Type 0} → (ℕ → F) → Item → Result X F → Result X F
item_within refused (Key i) rest = within refused i 8 rest
item_within refused Status rest = rest
item_within refused Address rest = rest
item_within refused (Segment s) rest = within refused s 8 rest

abbrev pub output_step_checked : ℕ → ℕ → OutputStep → Registers → Result (Unit {0}) SetUpFault
output_step_checked channel step to g =
    within OutOfRange channel 2 (within OutOfRange step 8 (item_within OutOfRange to.item (closed g.output)))

abbrev pub output_step_set : ℕ → ℕ → OutputStep → Registers → Registers
output_step_set channel step to g = changed_channel (numbered channel) (with_output_step step to) g

abbrev pub is_width : ℕ → Bool
is_width bits = bits == 8 || (bits == 16 || bits == 32)

abbrev pub width_of : ℕ → BlockWidth
width_of bits = cond (bits == 8) Eight (cond (bits == 16) Sixteen ThirtyTwo)

-- the bits of a block
abbrev pub bits_of : BlockWidth → ℕ
bits_of Eight = 8
bits_of Sixteen = 16
bits_of ThirtyTwo = 32

abbrev pub width_from : ℕ → Result BlockWidth NotOne
width_from bits = cond (is_width bits) (Ok (width_of bits)) (Err (not_one bits))

abbrev pub width_checked : ℕ → Registers → Result (Unit {0}) SetUpFault
width_checked bits g = cond (is_width bits) (closed g.input.sequence) (Err (OutOfRange bits))

abbrev pub width_set : ℕ → Registers → Registers
width_set bits g = with_set_up (record { a = g.setup.a; b = g.setup.b; width = width_of bits }) g
