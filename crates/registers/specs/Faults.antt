-- The number and the place of each refusal of a set-up and of a start. Assumes nothing.
use Rattle.std.specs.Prelude.{ℕ}
use Rattle.registers.specs.declared.faults.SetUpFault.{SetUpFault}
use Rattle.registers.specs.declared.faults.SetUpFault.TheVariants.{OutOfRange as SetUpRange, SequenceOpen}
use Rattle.registers.specs.declared.faults.StartFault.{StartFault}
use Rattle.registers.specs.declared.faults.StartFault.TheVariants.{OutOfRange as StartRange, NoHead, NoEnd}
use Rattle.table.specs.declared.faults.Place.{Place}
use Rattle.table.specs.declared.faults.Place.TheVariants.{SetUp, Start}

abbrev pub set_up_number : SetUpFault → ℕ
set_up_number (SetUpRange n) = 7
set_up_number SequenceOpen = 8

abbrev pub set_up_place : SetUpFault → Place
set_up_place (SetUpRange n) = SetUp
set_up_place SequenceOpen = SetUp

abbrev pub start_number : StartFault → ℕ
start_number (StartRange n) = 7
start_number NoHead = 9
start_number NoEnd = 10

abbrev pub start_place : StartFault → Place
start_place (StartRange n) = Start
start_place NoHead = Start
start_place NoEnd = Start
