-- The number, the place and the step of each refusal of a port; a command's keeps its own number and
-- place. Assumes nothing.
--   at_step   a command's answer to a step, as the port's answer
use Rattle.std.specs.Prelude.{ℕ, Some, None, Ok, Err, Option, Result}
use Rattle.ports.specs.declared.faults.PortFault.{PortFault}
use Rattle.ports.specs.declared.faults.PortFault.TheVariants.{NotStarted, HasEnded, TooWide, BlocksGone, InCommand}
use Rattle.processor.specs.Faults as command
use Rattle.processor.specs.declared.faults.CommandFault.{CommandFault}
use Rattle.table.specs.declared.faults.Place.{Place}
use Rattle.table.specs.declared.faults.Place.TheVariants.{Port}

abbrev pub number_of : PortFault → ℕ
number_of NotStarted = 11
number_of HasEnded = 12
number_of (TooWide step) = 13
number_of (BlocksGone step) = 14
number_of (InCommand at) = command.number_of at.fault

abbrev pub place_of : PortFault → Place
place_of NotStarted = Port
place_of HasEnded = Port
place_of (TooWide step) = Port
place_of (BlocksGone step) = Port
place_of (InCommand at) = command.place_of at.fault

abbrev pub step_in : PortFault → Option ℕ
step_in NotStarted = None
step_in HasEnded = None
step_in (TooWide step) = Some step
step_in (BlocksGone step) = Some step
step_in (InCommand at) = Some at.step

abbrev pub at_step : {X : Type 0} → ℕ → Result X CommandFault → Result X PortFault
at_step step (Ok x) = Ok x
at_step step (Err fault) = Err (InCommand (record { step = step; fault = fault }))
