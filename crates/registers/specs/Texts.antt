-- Channels, widths, items and how far a port's sequence is, as text, in bytes. Assumes nothing.
use Rattle.std.specs.Prelude.{ℕ, List, ◌++◌, Some, Option, codes, decimal}
use Rattle.registers.specs.declared.setting.BlockWidth.{BlockWidth}
use Rattle.registers.specs.declared.setting.BlockWidth.TheVariants.{Eight, Sixteen, ThirtyTwo}
use Rattle.registers.specs.declared.setting.Channel.{Channel}
use Rattle.registers.specs.declared.setting.Channel.TheVariants.{A, B}
use Rattle.registers.specs.declared.setting.Item.{Item}
use Rattle.registers.specs.declared.setting.Item.TheVariants.{Key, Status, Address, Segment}
use Rattle.registers.specs.declared.state.InputPlace.{InputPlace}
use Rattle.registers.specs.declared.state.OutputPlace.{OutputPlace}
use Rattle.registers.specs.declared.state.Sequence.{Sequence}
use Rattle.registers.specs.declared.state.Sequence.TheVariants.{NotStarted, Open, Ended}

abbrev pub channel_text : Channel → List ℕ
channel_text A = codes "0"
channel_text B = codes "1"

abbrev pub width_text : BlockWidth → List ℕ
width_text Eight = codes "8"
width_text Sixteen = codes "16"
width_text ThirtyTwo = codes "32"

abbrev pub item_text : Item → List ℕ
item_text (Key i) = codes "key " ++ decimal i
item_text Status = codes "status"
item_text Address = codes "address"
item_text (Segment s) = codes "segment " ++ decimal s

-- how far a port's sequence is: where it is open, its place
abbrev pub sequence_text : {P : Type 0} → (P → List ℕ) → Sequence P → List ℕ
sequence_text text NotStarted = codes "not-started"
sequence_text text (Open place) = text place
sequence_text text Ended = codes "ended"

-- the same, where a place may have no text
abbrev pub sequence_output : {P : Type 0} → (P → Option (List ℕ)) → Sequence P → Option (List ℕ)
sequence_output output NotStarted = Some (codes "not-started")
sequence_output output (Open place) = output place
sequence_output output Ended = Some (codes "ended")

-- the next step and the next block
abbrev pub input_place_text : InputPlace → List ℕ
input_place_text place = codes "step " ++ (decimal place.step ++ (codes " block " ++ decimal place.block))

abbrev pub output_place_text : OutputPlace → List ℕ
output_place_text place = codes "channel " ++ (channel_text place.channel ++ (codes " step " ++ decimal place.step))
