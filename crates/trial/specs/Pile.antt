-- The states that a trial begins and ends with, from the meanings of the two tables. Assumes nothing.
use Rattle.std.specs.Prelude.{ℕ, min, List, Result}
use Rattle.fence.specs.Shown.{shown}
use Rattle.fence.specs.declared.fences.Fence.{Fence}
use Rattle.join.specs.Joined.{join_rows}
use Rattle.join.specs.declared.joins.Join.{Join}
use Rattle.life.specs.Meaning.{State, lived}
use Rattle.life.specs.declared.calls.Call.{Call}
use Rattle.processor.specs.declared.processors.Processor.{Processor}
use Rattle.registers.specs.Fresh.{fresh}
use Rattle.registers.specs.declared.state.Registers.{Registers}
use Rattle.table.specs.Calls.{granted}
use Rattle.table.specs.Row.{Row}
use Rattle.table.specs.declared.tables.Table.{Ghosts as Table}

-- as wide as the narrower of the two
abbrev pub pile_width : ℕ → ℕ → ℕ
pile_width v w = min v w

-- the upper rows and then the lower ones, cut to that width, the first 262,144 of them, without
-- those that the fence hides
abbrev pub pile_rows : ℕ → ℕ → ℕ → List Row → List Row → List Row
pile_rows hidden v w us ls = shown hidden (join_rows 262144 (pile_width v w) us ls)

-- the state of a processor over a pile, from the meanings of its two tables
abbrev pile_state : {U L : Type 0} → Table U → Table L → ℕ → U → L → Registers → State
pile_state u l hidden upper lower g = record {
  width = pile_width (u.width upper) (l.width lower);
  rows = pile_rows hidden (u.width upper) (l.width lower) (u.rows upper) (l.rows lower);
  registers = g;
}

-- a fresh processor over the pile
abbrev pub first_state : {U L : Type 0} → Table U → Table L → ℕ → U → L → State
first_state u l hidden upper lower = pile_state u l hidden upper lower fresh

abbrev pub state_in : {U L : Type 0} → Table U → Table L → Processor (Fence (Join U L)) → State
state_in u l p = pile_state u l p.table.hidden p.table.table.upper p.table.table.lower p.registers

-- the state after some calls, or still the one before them where they were not worked
abbrev pub last_state : {X F : Type 0} → Result X F → State → List Call → State
last_state answers s calls = granted answers (lived s calls) s
