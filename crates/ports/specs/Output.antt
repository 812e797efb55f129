-- What a word of the output port tells, and what it leaves. Assumes nothing.
--   bit_at        a flag as a bit of a word
--   step_bits     the hits of the first n steps, bit i for step i
--   status_word   bit 31 hit, bit 30 several, bit 29 the input channel, bits 7 to 0 the step hits
--   address_word  bit 31 set and bits 17 to 0 the row, or 0 for none
--   item_word     the word of an item, on the table's width and rows
use Rattle.std.specs.Prelude.{ℕ, zero, suc, ◌+◌, ◌%◌, ◌^◌, Bool, true, false, cond, List, Some, None, Ok, Err, Option, Result, nat_lt, slice_index, slice_index_or}
use Rattle.ports.specs.Faults.{at_step}
use Rattle.ports.specs.declared.faults.PortFault.{PortFault}
use Rattle.ports.specs.declared.faults.PortFault.TheVariants.{NotStarted as NothingStarted, HasEnded}
use Rattle.processor.specs.Commands.{at_address}
use Rattle.processor.specs.declared.faults.CommandFault.{CommandFault}
use Rattle.processor.specs.declared.faults.CommandFault.TheVariants.{NoHitAddress}
use Rattle.registers.specs.Setting.{channel_of}
use Rattle.registers.specs.Start.{output_step_of, with_output}
use Rattle.registers.specs.declared.setting.Channel.{Channel}
use Rattle.registers.specs.declared.setting.Channel.TheVariants.{A, B}
use Rattle.registers.specs.declared.setting.Item.{Item}
use Rattle.registers.specs.declared.setting.Item.TheVariants.{Key, Status, Address, Segment}
use Rattle.registers.specs.declared.setting.OutputStep.{OutputStep}
use Rattle.registers.specs.declared.state.OutputPlace.{OutputPlace}
use Rattle.registers.specs.declared.state.Registers.{Registers}
use Rattle.registers.specs.declared.state.Sequence.{Sequence}
use Rattle.registers.specs.declared.state.Sequence.TheVariants.{NotStarted, Open, Ended}
use Rattle.table.specs.Calls.{on_cell, word_at}
use Rattle.table.specs.Row.{Row}

abbrev pub bit_at : ℕ → Bool → ℕ
bit_at n b = cond b (2 ^ n) 0

unfoldable pub step_bits : List Bool → ℕ → ℕ
step_bits hits zero = 0
step_bits hits (suc n) = step_bits hits n + bit_at n (slice_index_or hits n false)

abbrev pub is_b : Channel → Bool
is_b A = false
is_b B = true

abbrev pub status_word : Registers → ℕ
status_word g = bit_at 31 g.found.hit + (bit_at 30 g.found.several + (bit_at 29 (is_b g.input.channel) + step_bits g.input.hits 8))

abbrev pub address_word : Option ℕ → ℕ
address_word None = 0
address_word (Some row) = 2 ^ 31 + row % 2 ^ 18

-- there are eight keys
abbrev pub key_word : List ℕ → ℕ → ℕ
key_word keys i = cond (nat_lt i 8) (slice_index keys i) 0

abbrev pub item_word : ℕ → List Row → Registers → Item → Result ℕ CommandFault
item_word w rs g (Key i) = Ok (key_word g.input.keys i)
item_word w rs g Status = Ok (status_word g)
item_word w rs g Address = Ok (address_word g.found.address)
item_word w rs g (Segment s) = at_address NoHitAddress (λ row. on_cell w rs row s (word_at rs row s)) g.found.address

abbrev pub output_step_at : Registers → OutputPlace → OutputStep
output_step_at g place = output_step_of (channel_of g.setup place.channel) place.step

-- the word of a step with the end flag ends the sequence, else the next step follows
abbrev pub word_following : OutputStep → OutputPlace → Sequence OutputPlace
word_following step place = cond step.end Ended (Open (record { channel = place.channel; step = place.step + 1 }))

-- there is no ninth step: a sequence that is past the eighth has ended
abbrev pub word_answer : ℕ → List Row → Registers → Sequence OutputPlace → Result ℕ PortFault
word_answer w rs g NotStarted = Err NothingStarted
word_answer w rs g Ended = Err HasEnded
word_answer w rs g (Open place) = cond (nat_lt place.step 8) (at_step place.step (item_word w rs g (output_step_at g place).item)) (Err HasEnded)

abbrev pub word_left : Registers → Sequence OutputPlace → Registers
word_left g NotStarted = g
word_left g Ended = g
word_left g (Open place) = cond (nat_lt place.step 8) (with_output (word_following (output_step_at g place) place) g) g
