-- The number and the place of a refusal of any call: those of the layer that refused. Assumes nothing.
use Rattle.std.specs.Prelude.{ℕ}
use Rattle.life.specs.declared.faults.Fault.{Fault}
use Rattle.life.specs.declared.faults.Fault.TheVariants.{Command, SetUp, Start, Port}
use Rattle.ports.specs.Faults as port
use Rattle.processor.specs.Faults as command
use Rattle.registers.specs.Faults.{set_up_number, set_up_place, start_number, start_place}
use Rattle.table.specs.declared.faults.Place.{Place}

abbrev pub number_of : Fault → ℕ
number_of (Command f) = command.number_of f
number_of (SetUp f) = set_up_number f
number_of (Start f) = start_number f
number_of (Port f) = port.number_of f

abbrev pub place_of : Fault → Place
place_of (Command f) = command.place_of f
place_of (SetUp f) = set_up_place f
place_of (Start f) = start_place f
place_of (Port f) = port.place_of f
