-- What a register holds, by its name; nothing, if there is no such channel or step. Assumes nothing.
use Rattle.std.specs.Option.{option_and_then, option_map}
use Rattle.std.specs.Prelude.{ℕ, cond, Some, None, Option, ◌==◌, nat_lt, slice_index_or}
use Rattle.register_text.specs.declared.names.Register.{Register}
use Rattle.register_text.specs.declared.names.Register.TheVariants.{HitAddress, EmptyAddress, Hit, Several, Channel as ChannelNow, Keys, StepHits, Buffers, Input, Output, Width, Blocks, InputStep, OutputStep}
use Rattle.register_text.specs.declared.names.Told.{Told}
use Rattle.register_text.specs.declared.names.Told.TheVariants.{Address as Row, Flag, Channel as InChannel, Keys as TheKeys, StepHits as TheHits, Buffers as TheBuffers, Input as TheInput, Output as TheOutput, Width as TheWidth, Blocks as TheBlocks, InputStep as TheInputStep, OutputStep as TheOutputStep}
use Rattle.registers.specs.Fresh.{fresh_input_step, fresh_output_step}
use Rattle.registers.specs.Setting.{channel_of}
use Rattle.registers.specs.declared.setting.Channel.{Channel}
use Rattle.registers.specs.declared.setting.Channel.TheVariants.{A, B}
use Rattle.registers.specs.declared.setting.ChannelSetUp.{ChannelSetUp}
use Rattle.registers.specs.declared.state.Registers.{Registers}

abbrev pub channel_numbered : ℕ → Option Channel
channel_numbered n = cond (n == 0) (Some A) (cond (n == 1) (Some B) None)

abbrev pub set_up_in : Registers → ℕ → Option ChannelSetUp
set_up_in g c = option_map (channel_of g.setup) (channel_numbered c)

abbrev pub blocks_in : Registers → ℕ → Option Told
blocks_in g c = option_map (λ s. TheBlocks s.take s.start) (set_up_in g c)

abbrev pub input_step_in : Registers → ℕ → ℕ → Option Told
input_step_in g c n = option_and_then (λ s. cond (nat_lt n 8) (Some (TheInputStep (slice_index_or s.inputs n fresh_input_step))) None) (set_up_in g c)

abbrev pub output_step_in : Registers → ℕ → ℕ → Option Told
output_step_in g c n = option_and_then (λ s. cond (nat_lt n 8) (Some (TheOutputStep (slice_index_or s.outputs n fresh_output_step))) None) (set_up_in g c)

abbrev pub told_in : Registers → Register → Option Told
told_in g HitAddress = Some (Row g.found.address)
told_in g EmptyAddress = Some (Row g.empty)
told_in g Hit = Some (Flag g.found.hit)
told_in g Several = Some (Flag g.found.several)
told_in g ChannelNow = Some (InChannel g.input.channel)
told_in g Keys = Some (TheKeys g.input.keys)
told_in g StepHits = Some (TheHits g.input.hits)
told_in g Buffers = Some (TheBuffers g.input.buffers)
told_in g Input = Some (TheInput g.input.sequence)
told_in g Output = Some (TheOutput g.output)
told_in g Width = Some (TheWidth g.setup.width)
told_in g (Blocks c) = blocks_in g c
told_in g (InputStep c n) = input_step_in g c n
told_in g (OutputStep c n) = output_step_in g c n
