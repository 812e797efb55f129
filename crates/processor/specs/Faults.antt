-- The number and the place of each refusal of a command; a table's keeps its own. Assumes nothing.
use Rattle.std.specs.Prelude.{ℕ}
use Rattle.processor.specs.declared.faults.CommandFault.{CommandFault}
use Rattle.processor.specs.declared.faults.CommandFault.TheVariants.{NoHitAddress, NoEmptyAddress, InTable}
use Rattle.table.specs.Faults as table
use Rattle.table.specs.declared.faults.Place.{Place}
use Rattle.table.specs.declared.faults.Place.TheVariants.{Command}

abbrev pub number_of : CommandFault → ℕ
number_of NoHitAddress = 5
number_of NoEmptyAddress = 6
number_of (InTable fault) = table.number_of fault

abbrev pub place_of : CommandFault → Place
place_of NoHitAddress = Command
place_of NoEmptyAddress = Command
place_of (InTable fault) = table.place_of fault
