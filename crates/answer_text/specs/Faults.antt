-- The text of each refusal, as bytes: its number, its place, and what it carries. Assumes nothing.
--   …_cause   what a refusal carries: the step, the row or the segment asked for, the number out of
--             range, or what is wrong with a cut
use Rattle.std.specs.Prelude.{ℕ, List, [], ◌++◌, codes, decimal}
use Rattle.flags.specs.Faults as flags
use Rattle.flags.specs.declared.faults.FlagsFault.{FlagsFault}
use Rattle.flags.specs.declared.faults.FlagsFault.TheVariants.{Length, Starts, Start}
use Rattle.life.specs.Faults.{number_of, place_of}
use Rattle.life.specs.declared.faults.Fault.{Fault}
use Rattle.life.specs.declared.faults.Fault.TheVariants.{Command as InCommand, SetUp as InSetUp, Start as InStart, Port as InPort}
use Rattle.ports.specs.declared.faults.PortFault.{PortFault}
use Rattle.ports.specs.declared.faults.PortFault.TheVariants.{NotStarted, HasEnded, TooWide, BlocksGone, InCommand as AtCommand}
use Rattle.processor.specs.declared.faults.CommandFault.{CommandFault}
use Rattle.processor.specs.declared.faults.CommandFault.TheVariants.{NoHitAddress, NoEmptyAddress, InTable}
use Rattle.registers.specs.declared.faults.SetUpFault.{SetUpFault}
use Rattle.registers.specs.declared.faults.SetUpFault.TheVariants.{OutOfRange as SetUpRange, SequenceOpen}
use Rattle.registers.specs.declared.faults.StartFault.{StartFault}
use Rattle.registers.specs.declared.faults.StartFault.TheVariants.{OutOfRange as StartRange, NoHead, NoEnd}
use Rattle.table.specs.Texts.{place_text}
use Rattle.table.specs.declared.faults.Place.{Place}
use Rattle.table.specs.declared.faults.TableFault.{TableFault}
use Rattle.table.specs.declared.faults.TableFault.TheVariants.{Row, Segment}

-- any refusal, by its number, its place and what it carries
abbrev pub refusal_text : {F : Type 0} → (F → ℕ) → (F → Place) → (F → List ℕ) → F → List ℕ
refusal_text number place cause f = codes "refused " ++ (decimal (number f) ++ (codes " " ++ (place_text (place f) ++ cause f)))

abbrev pub table_cause : TableFault → List ℕ
table_cause (Row row) = codes " row " ++ decimal row
table_cause (Segment segment) = codes " segment " ++ decimal segment

abbrev pub command_cause : CommandFault → List ℕ
command_cause NoHitAddress = []
command_cause NoEmptyAddress = []
command_cause (InTable fault) = table_cause fault

abbrev pub set_up_cause : SetUpFault → List ℕ
set_up_cause (SetUpRange number) = codes " number " ++ decimal number
set_up_cause SequenceOpen = []

abbrev pub start_cause : StartFault → List ℕ
start_cause (StartRange number) = codes " number " ++ decimal number
start_cause NoHead = []
start_cause NoEnd = []

abbrev pub step_text : ℕ → List ℕ
step_text step = codes " step " ++ decimal step

abbrev pub port_cause : PortFault → List ℕ
port_cause NotStarted = []
port_cause HasEnded = []
port_cause (TooWide step) = step_text step
port_cause (BlocksGone step) = step_text step
port_cause (AtCommand at) = codes " step " ++ (decimal at.step ++ command_cause at.fault)

abbrev pub cause_text : Fault → List ℕ
cause_text (InCommand fault) = command_cause fault
cause_text (InSetUp fault) = set_up_cause fault
cause_text (InStart fault) = start_cause fault
cause_text (InPort fault) = port_cause fault

abbrev pub fault_text : Fault → List ℕ
fault_text = refusal_text number_of place_of cause_text

abbrev pub flags_cause : FlagsFault → List ℕ
flags_cause (Length flags starts) = codes " flags " ++ (decimal flags ++ (codes " starts " ++ decimal starts))
flags_cause (Starts starts) = codes " starts " ++ decimal starts
flags_cause (Start member) = codes " member " ++ decimal member

abbrev pub flags_fault_text : FlagsFault → List ℕ
flags_fault_text = refusal_text flags.number_of flags.place_of flags_cause
