-- What each call of a processor answers and leaves, from the state before it. Assumes nothing.
--   State             a table's width and rows, and the registers beside it
--   Reply             an answer, or the refusal of a layer
--   …_reply           the reply to a call of a group
--   …_rows, …_regs    the rows and the registers after it
--   reply_to, after   the same of any call
--   lived, replies    the state after a list of calls, and the replies to them
use Rattle.std.specs.Prelude.{ℕ, List, [], ◌∷◌, map, Ok, Err, Option, Result}
use Rattle.life.specs.declared.calls.Answer.{Answer}
use Rattle.life.specs.declared.calls.Answer.TheVariants.{Done, Word as TheWord, Marks as TheMarks, Address, Registers as TheRegisters, Block as TheBlock}
use Rattle.life.specs.declared.calls.Call.{Call}
use Rattle.life.specs.declared.calls.Call.TheVariants.{OnRow, Search as SearchFor, OnWalk, OnSetUp, OnPort}
use Rattle.life.specs.declared.calls.PortCall.{PortCall}
use Rattle.life.specs.declared.calls.PortCall.TheVariants.{StartInput, StartOutput, Stop, Block, Word}
use Rattle.life.specs.declared.calls.RowCall.{RowCall}
use Rattle.life.specs.declared.calls.RowCall.TheVariants.{Read, Write, Marks, SetMarks, ReadAtHit, WriteAtHit, ReadAtEmpty, WriteAtEmpty, Append, Purge, ClearAccess, Reset}
use Rattle.life.specs.declared.calls.SetUpCall.{SetUpCall}
use Rattle.life.specs.declared.calls.SetUpCall.TheVariants.{InputStep, OutputStep, Blocks, BlockWidth}
use Rattle.life.specs.declared.calls.WalkCall.{WalkCall}
use Rattle.life.specs.declared.calls.WalkCall.TheVariants.{Rewind, NextHit, FindEmpty, NextEmpty, Registers as TellRegisters}
use Rattle.life.specs.declared.faults.Fault.{Fault}
use Rattle.life.specs.declared.faults.Fault.TheVariants.{Command as InCommand, SetUp as InSetUp, Start as InStart, Port as InPort}
use Rattle.ports.specs.declared.faults.PortFault.{PortFault}
use Rattle.ports.specs.declared.input.BlockAnswer.{BlockAnswer}
use Rattle.ports.specs.Input.{block_answer, block_asks, block_left, ran}
use Rattle.ports.specs.Output.{word_answer, word_left}
use Rattle.processor.specs.Commands.{at_address, became_valid, change_at, command}
use Rattle.processor.specs.Walks.{after as address_after, found_in, moved_to, with_empty, with_found}
use Rattle.processor.specs.declared.faults.CommandFault.{CommandFault}
use Rattle.processor.specs.declared.faults.CommandFault.TheVariants.{NoHitAddress, NoEmptyAddress}
use Rattle.processor.specs.declared.processors.Processor.{Processor}
use Rattle.registers.specs.Fresh.{fresh}
use Rattle.registers.specs.Setting.{blocks_checked, blocks_set, input_step_checked, input_step_set, output_step_checked, output_step_set, width_checked, width_set}
use Rattle.registers.specs.Start.{input_checked, input_started, output_checked, output_started, stopped}
use Rattle.registers.specs.declared.state.Registers.{Registers}
use Rattle.table.specs.Calls.{change, first, granted, marks_at, on_cell, on_row, on_segment, word_at}
use Rattle.table.specs.Row.{Row, is_empty, is_hit, marked, purged, searched, unvisited, vacated, written}
use Rattle.table.specs.declared.parts.Search.{Search}
use Rattle.table.specs.declared.tables.Table.{Ghosts as Table}

pub record State : Type 0 where
  pub width : ℕ
  pub rows : List Row
  pub registers : Registers

abbrev pub Reply : Type 0
Reply = Result Answer Fault

-- what a layer's answer comes to
abbrev pub told : {X F : Type 0} → (F → Fault) → (X → Answer) → Result X F → Reply
told layer f (Ok x) = Ok (f x)
told layer f (Err e) = Err (layer e)

abbrev pub done : Unit {0} → Answer
done u = Done

-- whether a command that changes a row is granted
abbrev pub cell : State → ℕ → ℕ → Result (Unit {0}) CommandFault
cell s r g = command (on_cell s.width s.rows r g tt)

abbrev pub line : State → ℕ → Result (Unit {0}) CommandFault
line s r = command (on_row s.rows r tt)

abbrev pub cell_at_hit : State → ℕ → Result (Unit {0}) CommandFault
cell_at_hit s g = at_address NoHitAddress (λ r. on_cell s.width s.rows r g tt) s.registers.found.address

abbrev pub cell_at_empty : State → ℕ → Result (Unit {0}) CommandFault
cell_at_empty s g = at_address NoEmptyAddress (λ r. on_cell s.width s.rows r g tt) s.registers.empty

abbrev pub line_at_empty : State → Result (Unit {0}) CommandFault
line_at_empty s = at_address NoEmptyAddress (λ r. on_row s.rows r tt) s.registers.empty

abbrev pub row_reply : State → RowCall → Reply
row_reply s (Read r g) = told InCommand TheWord (command (on_cell s.width s.rows r g (word_at s.rows r g)))
row_reply s (Write r g v) = told InCommand done (cell s r g)
row_reply s (Marks r) = told InCommand TheMarks (command (on_row s.rows r (marks_at s.rows r)))
row_reply s (SetMarks r m) = told InCommand done (line s r)
row_reply s (ReadAtHit g) = told InCommand TheWord (at_address NoHitAddress (λ r. on_cell s.width s.rows r g (word_at s.rows r g)) s.registers.found.address)
row_reply s (WriteAtHit g v) = told InCommand done (cell_at_hit s g)
row_reply s (ReadAtEmpty g) = told InCommand TheWord (at_address NoEmptyAddress (λ r. on_cell s.width s.rows r g (word_at s.rows r g)) s.registers.empty)
row_reply s (WriteAtEmpty g v) = told InCommand done (cell_at_empty s g)
row_reply s Append = told InCommand done (line_at_empty s)
row_reply s (Purge k) = Ok Done
row_reply s ClearAccess = Ok Done
row_reply s Reset = Ok Done

abbrev pub row_rows : State → RowCall → List Row
row_rows s (Read r g) = s.rows
row_rows s (Write r g v) = granted (cell s r g) (change r (written g v) s.rows) s.rows
row_rows s (Marks r) = s.rows
row_rows s (SetMarks r m) = granted (line s r) (change r (marked m) s.rows) s.rows
row_rows s (ReadAtHit g) = s.rows
row_rows s (WriteAtHit g v) = granted (cell_at_hit s g) (change_at (written g v) s.rows s.registers.found.address) s.rows
row_rows s (ReadAtEmpty g) = s.rows
row_rows s (WriteAtEmpty g v) = granted (cell_at_empty s g) (change_at (written g v) s.rows s.registers.empty) s.rows
row_rows s Append = granted (line_at_empty s) (change_at became_valid s.rows s.registers.empty) s.rows
row_rows s (Purge k) = map (purged k) s.rows
row_rows s ClearAccess = map unvisited s.rows
row_rows s Reset = map vacated s.rows

-- a reset makes the registers fresh; no other call on rows touches them
abbrev pub row_regs : State → RowCall → Registers
row_regs s (Read r g) = s.registers
row_regs s (Write r g v) = s.registers
row_regs s (Marks r) = s.registers
row_regs s (SetMarks r m) = s.registers
row_regs s (ReadAtHit g) = s.registers
row_regs s (WriteAtHit g v) = s.registers
row_regs s (ReadAtEmpty g) = s.registers
row_regs s (WriteAtEmpty g v) = s.registers
row_regs s Append = s.registers
row_regs s (Purge k) = s.registers
row_regs s ClearAccess = s.registers
row_regs s Reset = fresh

abbrev pub search_result : State → Search → Result (Option ℕ) CommandFault
search_result s q = command (on_segment s.width q.segment (first is_hit (map (searched q) s.rows) 0))

abbrev pub search_reply : State → Search → Reply
search_reply s q = told InCommand Address (search_result s q)

abbrev pub search_rows : State → Search → List Row
search_rows s q = granted (search_result s q) (map (searched q) s.rows) s.rows

abbrev pub search_regs : State → Search → Registers
search_regs s q = granted (search_result s q) (with_found (found_in (map (searched q) s.rows)) s.registers) s.registers

abbrev pub next_hit : State → Option ℕ
next_hit s = address_after is_hit s.rows s.registers.found.address

abbrev pub next_empty : State → Option ℕ
next_empty s = address_after is_empty s.rows s.registers.empty

-- no walk call is refused
abbrev pub walk_reply : State → WalkCall → Answer
walk_reply s Rewind = Address (first is_hit s.rows 0)
walk_reply s NextHit = Address (next_hit s)
walk_reply s FindEmpty = Address (first is_empty s.rows 0)
walk_reply s NextEmpty = Address (next_empty s)
walk_reply s TellRegisters = TheRegisters s.registers

abbrev pub walk_regs : State → WalkCall → Registers
walk_regs s Rewind = with_found (moved_to (first is_hit s.rows 0) s.registers.found) s.registers
walk_regs s NextHit = with_found (moved_to (next_hit s) s.registers.found) s.registers
walk_regs s FindEmpty = with_empty (first is_empty s.rows 0) s.registers
walk_regs s NextEmpty = with_empty (next_empty s) s.registers
walk_regs s TellRegisters = s.registers

abbrev pub set_up_reply : State → SetUpCall → Reply
set_up_reply s (InputStep c n to) = told InSetUp done (input_step_checked c n to s.registers)
set_up_reply s (OutputStep c n to) = told InSetUp done (output_step_checked c n to s.registers)
set_up_reply s (Blocks c take start) = told InSetUp done (blocks_checked c s.registers)
set_up_reply s (BlockWidth bits) = told InSetUp done (width_checked bits s.registers)

abbrev pub set_up_regs : State → SetUpCall → Registers
set_up_regs s (InputStep c n to) = granted (input_step_checked c n to s.registers) (input_step_set c n to s.registers) s.registers
set_up_regs s (OutputStep c n to) = granted (output_step_checked c n to s.registers) (output_step_set c n to s.registers) s.registers
set_up_regs s (Blocks c take start) = granted (blocks_checked c s.registers) (blocks_set c take start s.registers) s.registers
set_up_regs s (BlockWidth bits) = granted (width_checked bits s.registers) (width_set bits s.registers) s.registers

abbrev pub block_result : State → ℕ → Result BlockAnswer PortFault
block_result s v = block_answer s.width s.registers v s.registers.input.sequence

abbrev pub word_result : State → Result ℕ PortFault
word_result s = word_answer s.width s.rows s.registers s.registers.output

abbrev pub port_reply : State → PortCall → Reply
port_reply s (StartInput c n) = told InStart done (input_checked c n s.registers)
port_reply s (StartOutput c n) = told InStart done (output_checked c n s.registers)
port_reply s Stop = Ok Done
port_reply s (Block v) = told InPort TheBlock (block_result s v)
port_reply s Word = told InPort TheWord (word_result s)

abbrev pub port_rows : State → PortCall → List Row
port_rows s (StartInput c n) = s.rows
port_rows s (StartOutput c n) = s.rows
port_rows s Stop = s.rows
port_rows s (Block v) = granted (block_result s v) (ran (block_asks s.registers v s.registers.input.sequence) s.rows) s.rows
port_rows s Word = s.rows

abbrev pub port_regs : State → PortCall → Registers
port_regs s (StartInput c n) = granted (input_checked c n s.registers) (input_started c n s.registers) s.registers
port_regs s (StartOutput c n) = granted (output_checked c n s.registers) (output_started c n s.registers) s.registers
port_regs s Stop = stopped s.registers
port_regs s (Block v) = granted (block_result s v) (block_left s.rows s.registers v s.registers.input.sequence) s.registers
port_regs s Word = granted (word_result s) (word_left s.registers s.registers.output) s.registers

abbrev pub reply_to : State → Call → Reply
reply_to s (OnRow c) = row_reply s c
reply_to s (SearchFor q) = search_reply s q
reply_to s (OnWalk c) = Ok (walk_reply s c)
reply_to s (OnSetUp c) = set_up_reply s c
reply_to s (OnPort c) = port_reply s c

abbrev pub rows_after : State → Call → List Row
rows_after s (OnRow c) = row_rows s c
rows_after s (SearchFor q) = search_rows s q
rows_after s (OnWalk c) = s.rows
rows_after s (OnSetUp c) = s.rows
rows_after s (OnPort c) = port_rows s c

abbrev pub regs_after : State → Call → Registers
regs_after s (OnRow c) = row_regs s c
regs_after s (SearchFor q) = search_regs s q
regs_after s (OnWalk c) = walk_regs s c
regs_after s (OnSetUp c) = set_up_regs s c
regs_after s (OnPort c) = port_regs s c

abbrev pub after : State → Call → State
after s c = record { width = s.width; rows = rows_after s c; registers = regs_after s c }

unfoldable pub lived : State → List Call → State
lived s [] = s
lived s (c ∷ cs) = lived (after s c) cs

unfoldable pub replies : State → List Call → List Reply
replies s [] = []
replies s (c ∷ cs) = reply_to s c ∷ replies (after s c) cs

-- the state of a processor, by the meaning of its table
abbrev pub state_of : {T : Type 0} → Table T → Processor T → State
state_of t p = record { width = t.width p.table; rows = t.rows p.table; registers = p.registers }
