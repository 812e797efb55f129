-- A sequence never runs past the steps of its channel. Assumes nothing.
--   Ahead       each open sequence has a step with the end flag before it, the next one or a later one
--   StaysAhead  it holds of fresh registers and every call keeps it; so the next step of an open
--               sequence is always one of its channel's
use Rattle.std.specs.Prelude.{◌≡◌, ℕ, ◌<◌, true, List, length, Ok, Option}
use Rattle.ports.specs.Input.{block_left, channel_in}
use Rattle.ports.specs.Output.{word_left}
use Rattle.processor.specs.Walks.{with_empty, with_found}
use Rattle.registers.specs.Fresh.{fresh}
use Rattle.registers.specs.Setting.{blocks_set, channel_of, input_step_checked, input_step_set, output_step_checked, output_step_set, width_set}
use Rattle.registers.specs.Start.{input_checked, input_ends, input_started, output_checked, output_ends, output_started, some_ends, stopped}
use Rattle.registers.specs.declared.setting.InputStep.{InputStep}
use Rattle.registers.specs.declared.setting.OutputStep.{OutputStep}
use Rattle.registers.specs.declared.state.Found.{Found}
use Rattle.registers.specs.declared.state.InputPlace.{InputPlace}
use Rattle.registers.specs.declared.state.OutputPlace.{OutputPlace}
use Rattle.registers.specs.declared.state.Registers.{Registers}
use Rattle.registers.specs.declared.state.Sequence.{Sequence}
use Rattle.registers.specs.declared.state.Sequence.TheVariants.{NotStarted, Open, Ended}
use Rattle.table.specs.Row.{Row}

abbrev pub InputAhead : Registers → Sequence InputPlace → Type 0
InputAhead g NotStarted = Unit {0}
InputAhead g Ended = Unit {0}
InputAhead g (Open place) = some_ends input_ends (channel_in g).inputs place.step ≡ true

abbrev pub OutputAhead : Registers → Sequence OutputPlace → Type 0
OutputAhead g NotStarted = Unit {0}
OutputAhead g Ended = Unit {0}
OutputAhead g (Open place) = some_ends output_ends (channel_of g.setup place.channel).outputs place.step ≡ true

pub record Ahead (g : Registers) : Type 0 where
  pub input : InputAhead g g.input.sequence
  pub output : OutputAhead g g.output

pub record StaysAhead : Type 0 where
  pub at_first : Ahead fresh
  pub by_input_step : (channel step : ℕ) (to : InputStep) (g : Registers) → input_step_checked channel step to g ≡ Ok tt → Ahead g → Ahead (input_step_set channel step to g)
  pub by_output_step : (channel step : ℕ) (to : OutputStep) (g : Registers) → output_step_checked channel step to g ≡ Ok tt → Ahead g → Ahead (output_step_set channel step to g)
  pub by_blocks : (channel take start : ℕ) (g : Registers) → Ahead g → Ahead (blocks_set channel take start g)
  pub by_width : (bits : ℕ) (g : Registers) → Ahead g → Ahead (width_set bits g)
  pub by_input_start : (channel step : ℕ) (g : Registers) → input_checked channel step g ≡ Ok tt → Ahead g → Ahead (input_started channel step g)
  pub by_output_start : (channel step : ℕ) (g : Registers) → output_checked channel step g ≡ Ok tt → Ahead g → Ahead (output_started channel step g)
  pub by_stop : (g : Registers) → Ahead (stopped g)
  pub by_search : (found : Found) (g : Registers) → Ahead g → Ahead (with_found found g)
  pub by_empty_walk : (empty : Option ℕ) (g : Registers) → Ahead g → Ahead (with_empty empty g)
  pub by_block : (rs : List Row) (value : ℕ) (g : Registers) → Ahead g → Ahead (block_left rs g value g.input.sequence)
  pub by_word : (g : Registers) → Ahead g → Ahead (word_left g g.output)
  pub input_within : (g : Registers) (place : InputPlace) → Ahead g → g.input.sequence ≡ Open place → place.step < length (channel_in g).inputs
  pub output_within : (g : Registers) (place : OutputPlace) → Ahead g → g.output ≡ Open place → place.step < length (channel_of g.setup place.channel).outputs
