-- The text of what any register holds, as bytes. Assumes nothing.
use Rattle.std.specs.Prelude.{ℕ, List, Some, None, ◌++◌, codes, Option}
use Rattle.answer_text.specs.Answers.{address_text}
use Rattle.call_text.specs.Texts.{input_text, output_text}
use Rattle.register_text.specs.Texts.{flag_text, hits_text, keys_text}
use Rattle.register_text.specs.declared.names.Told.{Told}
use Rattle.register_text.specs.declared.names.Told.TheVariants.{Address, Flag, Channel, Keys, StepHits, Buffers, Input, Output, Width, Blocks, InputStep, OutputStep}
use Rattle.registers.specs.Texts.{channel_text, input_place_text, output_place_text, sequence_text, width_text}
use Rattle.tokens.specs.Hex.{hex_text}

abbrev pub told_text : Told → List ℕ
told_text (Address address) = address_text address
told_text (Flag set) = flag_text set
told_text (Channel channel) = channel_text channel
told_text (Keys keys) = keys_text keys
told_text (StepHits hits) = hits_text hits
told_text (Buffers b) = hex_text 8 b.accumulation ++ (codes " " ++ hex_text 8 b.sub)
told_text (Input sequence) = sequence_text input_place_text sequence
told_text (Output sequence) = sequence_text output_place_text sequence
told_text (Width width) = width_text width
told_text (Blocks take start) = hex_text 16 take ++ (codes " " ++ hex_text 16 start)
told_text (InputStep step) = input_text step
told_text (OutputStep step) = output_text step

abbrev pub said_text : Option Told → List ℕ
said_text (Some told) = told_text told
said_text None = codes "nothing"
