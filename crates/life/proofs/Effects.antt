-- What each call does to the rows and to the hit address, by its event. Assumes nothing.
use Rattle.std.proofs.Common.{◌≡◌, ℕ, ◌^◌, Bool, true, false, cond, ltb, ◌⊎◌, List, map, Some, None, Ok, Err, Option, Result, refl, inl, inr}
use Rattle.life.specs.Meaning.{State, after, cell, cell_at_empty, cell_at_hit, line, line_at_empty, search_result, word_result}
use Rattle.life.specs.Walks.{Event, changes, event_of, if_any, moves, neither, rewinds, searches}
use Rattle.life.specs.declared.calls.Call.{Call}
use Rattle.life.specs.declared.calls.Call.TheVariants.{OnRow, Search as SearchFor, OnWalk, OnSetUp, OnPort}
use Rattle.life.specs.declared.calls.PortCall.{PortCall}
use Rattle.life.specs.declared.calls.PortCall.TheVariants.{StartInput, StartOutput, Stop, Block, Word}
use Rattle.life.specs.declared.calls.RowCall.{RowCall}
use Rattle.life.specs.declared.calls.RowCall.TheVariants.{Read, Write, Marks, SetMarks, ReadAtHit, WriteAtHit, ReadAtEmpty, WriteAtEmpty, Append, Purge, ClearAccess, Reset}
use Rattle.life.specs.declared.calls.SetUpCall.{SetUpCall}
use Rattle.life.specs.declared.calls.SetUpCall.TheVariants.{InputStep, OutputStep, Blocks, BlockWidth}
use Rattle.life.specs.declared.calls.WalkCall.{WalkCall}
use Rattle.life.specs.declared.calls.WalkCall.TheVariants.{Rewind, NextHit, FindEmpty, NextEmpty, Registers as TellRegisters}
use Rattle.ports.specs.Blocks.{bits_of}
use Rattle.ports.specs.Input.{asked, block_answer, block_asks, block_left, filled, ran, runs, step_answer, step_at, step_left, taken_input}
use Rattle.ports.specs.Output.{output_step_at, word_following, word_left}
use Rattle.ports.specs.declared.faults.PortFault.{PortFault}
use Rattle.ports.specs.declared.faults.PortFault.TheVariants.{TooWide, BlocksGone}
use Rattle.ports.specs.declared.input.BlockAnswer.{BlockAnswer}
use Rattle.ports.specs.declared.input.BlockAnswer.TheVariants.{Ignored, Taken}
use Rattle.processor.specs.Walks.{after as address_after}
use Rattle.registers.specs.Setting.{blocks_checked, input_step_checked, output_step_checked, width_checked}
use Rattle.registers.specs.Start.{input_checked, output_checked, with_input, with_output}
use Rattle.registers.specs.declared.state.InputPlace.{InputPlace}
use Rattle.registers.specs.declared.state.OutputPlace.{OutputPlace}
use Rattle.registers.specs.declared.state.Registers.{Registers}
use Rattle.registers.specs.declared.state.Sequence.{Sequence}
use Rattle.registers.specs.declared.state.Sequence.TheVariants.{NotStarted, Open, Ended}
use Rattle.table.specs.Calls.{first, granted}
use Rattle.table.specs.Row.{Row, is_hit, searched, unvisited}
use Rattle.table.specs.declared.parts.Search.{Search}

abbrev pub address : Registers → Option ℕ
address g = g.found.address

-- rows and registers before, rows and registers after
abbrev pub Does : Event → List Row → Registers → List Row → Registers → Type 0
Does (searches q) rs g rs' g' = (rs' ≡ map (searched q) rs) × (address g' ≡ first is_hit rs' 0)
Does rewinds rs g rs' g' = (rs' ≡ rs) × (address g' ≡ first is_hit rs 0)
Does moves rs g rs' g' = (rs' ≡ rs) × (address g' ≡ address_after is_hit rs (address g))
Does changes rs g rs' g' = Unit {0}
Does neither rs g rs' g' = ((rs' ≡ rs) ⊎ (rs' ≡ map unvisited rs)) × (address g' ≡ address g)

abbrev Effect : State → Call → Type 0
Effect s c = Does (event_of s c) s.rows s.registers (after s c).rows (after s c).registers

kept : (rs : List Row) (g : Registers) → Does neither rs g rs g
kept rs g = (inl refl, refl)

-- a change of a row that may be refused
changing : {F : Type 0} (res : Result (Unit {0}) F) (new rs : List Row) (g : Registers) → Does (granted res changes neither) rs g (granted res new rs) g
changing (Ok u) new rs g = tt
changing (Err e) new rs g = kept rs g

-- registers that may be set, the hit address apart
setting : {X F : Type 0} (res : Result X F) (new g : Registers) (rs : List Row) → address new ≡ address g → Does neither rs g rs (granted res new g)
setting (Ok u) new g rs e = (inl refl, e)
setting (Err f) new g rs e = kept rs g

row_effect : (s : State) (c : RowCall) → Effect s (OnRow c)
row_effect s (Read r g) = kept s.rows s.registers
row_effect s (Write r g v) = changing (cell s r g) _ s.rows s.registers
row_effect s (Marks r) = kept s.rows s.registers
row_effect s (SetMarks r m) = changing (line s r) _ s.rows s.registers
row_effect s (ReadAtHit g) = kept s.rows s.registers
row_effect s (WriteAtHit g v) = changing (cell_at_hit s g) _ s.rows s.registers
row_effect s (ReadAtEmpty g) = kept s.rows s.registers
row_effect s (WriteAtEmpty g v) = changing (cell_at_empty s g) _ s.rows s.registers
row_effect s Append = changing (line_at_empty s) _ s.rows s.registers
row_effect s (Purge k) = tt
row_effect s ClearAccess = (inr refl, refl)
row_effect s Reset = tt

searching : {X F : Type 0} (res : Result X F) (q : Search) (rs : List Row) (new g : Registers) → address new ≡ first is_hit (map (searched q) rs) 0
    → Does (granted res (searches q) neither) rs g (granted res (map (searched q) rs) rs) (granted res new g)
searching (Ok x) q rs new g e = (refl, e)
searching (Err f) q rs new g e = kept rs g

search_effect : (s : State) (q : Search) → Effect s (SearchFor q)
search_effect s q = searching (search_result s q) q s.rows _ s.registers refl

walk_effect : (s : State) (c : WalkCall) → Effect s (OnWalk c)
walk_effect s Rewind = (refl, refl)
walk_effect s NextHit = (refl, refl)
walk_effect s FindEmpty = (inl refl, refl)
walk_effect s NextEmpty = (inl refl, refl)
walk_effect s TellRegisters = (inl refl, refl)

set_up_effect : (s : State) (c : SetUpCall) → Effect s (OnSetUp c)
set_up_effect s (InputStep c n to) = setting (input_step_checked c n to s.registers) _ s.registers s.rows refl
set_up_effect s (OutputStep c n to) = setting (output_step_checked c n to s.registers) _ s.registers s.rows refl
set_up_effect s (Blocks c take start) = setting (blocks_checked c s.registers) _ s.registers s.rows refl
set_up_effect s (BlockWidth bits) = setting (width_checked bits s.registers) _ s.registers s.rows refl

-- a block in an open sequence: within the steps, narrow enough, early enough, and whether a search runs
blocking : (in-steps narrow early asks : Bool) (res : Result BlockAnswer PortFault) (late wide : PortFault) (q : Search) (rs : List Row) (g : Registers)
    (left : List Row → Registers) (taken : Registers) → ((rs' : List Row) → address (left rs') ≡ first is_hit rs' 0) → address taken ≡ address g
    → let told = cond in-steps (cond narrow (cond early (cond asks res (Ok Taken)) (Err late)) (Err wide)) (Ok Ignored) in
    let wants = cond asks (Some q) None in
    Does (granted told (if_any (cond in-steps wants None)) neither) rs g (granted told (ran (cond in-steps wants None) rs) rs)
    (granted told (cond in-steps (cond asks (left (ran wants rs)) taken) g) g)
blocking false narrow early asks res late wide q rs g left taken h e = kept rs g
blocking true false early asks res late wide q rs g left taken h e = kept rs g
blocking true true false asks res late wide q rs g left taken h e = kept rs g
blocking true true true false res late wide q rs g left taken h e = (inl refl, e)
blocking true true true true (Ok a) late wide q rs g left taken h e = (refl, h (map (searched q) rs))
blocking true true true true (Err f) late wide q rs g left taken h e = kept rs g

block_effect : (w : ℕ) (rs : List Row) (g : Registers) (v : ℕ) (seq : Sequence InputPlace)
    → Does (granted (block_answer w g v seq) (if_any (block_asks g v seq)) neither) rs g (granted (block_answer w g v seq) (ran (block_asks g v seq) rs) rs)
    (granted (block_answer w g v seq) (block_left rs g v seq) g)
block_effect w rs g v NotStarted = kept rs g
block_effect w rs g v Ended = kept rs g
block_effect w rs g v (Open place) =
    blocking (ltb place.step 8) (ltb v (2 ^ bits_of g.setup.width)) (ltb place.block 64) (runs g place) (step_answer w g place)
    (BlocksGone place.step) (TooWide place.step) (asked (step_at g place) (filled g place v)) rs g
    (λ rs'. step_left rs' g place (filled g place v)) (with_input (taken_input place (filled g place v) g.input) g) (λ rs'. refl) refl

word_address : (g : Registers) (seq : Sequence OutputPlace) → address (word_left g seq) ≡ address g
word_address g NotStarted = refl
word_address g Ended = refl
word_address g (Open place) = at (ltb place.step 8)
  where
    at : (b : Bool) → address (cond b (with_output (word_following (output_step_at g place) place) g) g) ≡ address g
    at true = refl
    at false = refl

port_effect : (s : State) (c : PortCall) → Effect s (OnPort c)
port_effect s (StartInput c n) = setting (input_checked c n s.registers) _ s.registers s.rows refl
port_effect s (StartOutput c n) = setting (output_checked c n s.registers) _ s.registers s.rows refl
port_effect s Stop = (inl refl, refl)
port_effect s (Block v) = block_effect s.width s.rows s.registers v s.registers.input.sequence
port_effect s Word = setting (word_result s) (word_left s.registers s.registers.output) s.registers s.rows (word_address s.registers s.registers.output)

pub effect : (s : State) (c : Call) → Does (event_of s c) s.rows s.registers (after s c).rows (after s c).registers
effect s (OnRow c) = row_effect s c
effect s (SearchFor q) = search_effect s q
effect s (OnWalk c) = walk_effect s c
effect s (OnSetUp c) = set_up_effect s c
effect s (OnPort c) = port_effect s c
