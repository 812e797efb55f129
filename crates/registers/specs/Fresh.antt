-- The registers of a processor that has done nothing: no addresses, no sequence started, 32-bit blocks,
-- zeros elsewhere. An output step then tells key 0. Assumes nothing.
use Rattle.std.specs.Prelude.{false, replicate, None}
use Rattle.registers.specs.declared.setting.BlockWidth.TheVariants.{ThirtyTwo}
use Rattle.registers.specs.declared.setting.Channel.TheVariants.{A}
use Rattle.registers.specs.declared.setting.ChannelSetUp.{ChannelSetUp}
use Rattle.registers.specs.declared.setting.InputStep.{InputStep}
use Rattle.registers.specs.declared.setting.Item.TheVariants.{Key}
use Rattle.registers.specs.declared.setting.OutputStep.{OutputStep}
use Rattle.registers.specs.declared.setting.SetUp.{SetUp}
use Rattle.registers.specs.declared.state.Buffers.{Buffers}
use Rattle.registers.specs.declared.state.Found.{Found}
use Rattle.registers.specs.declared.state.Input.{Input}
use Rattle.registers.specs.declared.state.Registers.{Registers}
use Rattle.registers.specs.declared.state.Sequence.TheVariants.{NotStarted}

abbrev pub fresh_input_step : InputStep
fresh_input_step = record { mask = 0; shift = 0; segment = 0; head = false; access = false; end = false }

abbrev pub fresh_output_step : OutputStep
fresh_output_step = record { item = Key 0; end = false }

abbrev pub fresh_channel : ChannelSetUp
fresh_channel = record { inputs = replicate 8 fresh_input_step; take = 0; start = 0; outputs = replicate 8 fresh_output_step }

abbrev pub fresh_set_up : SetUp
fresh_set_up = record { a = fresh_channel; b = fresh_channel; width = ThirtyTwo }

abbrev pub empty_buffers : Buffers
empty_buffers = record { accumulation = 0; sub = 0 }

abbrev pub no_hits : Found
no_hits = record { address = None; hit = false; several = false }

abbrev pub fresh_input : Input
fresh_input = record { channel = A; keys = replicate 8 0; hits = replicate 8 false; buffers = empty_buffers; sequence = NotStarted }

abbrev pub fresh : Registers
fresh = record { found = no_hits; empty = None; input = fresh_input; output = NotStarted; setup = fresh_set_up }
