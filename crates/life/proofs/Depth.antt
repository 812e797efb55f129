-- No call changes how many rows there are. Assumes nothing.
use Rattle.std.proofs.Common.{◌≡◌, ℕ, List, [], ◌∷◌, length, Some, None, Ok, Err, Option, Result, refl, ◌∙◌}
use Rattle.life.specs.Meaning.{State, after, block_result, cell, cell_at_empty, cell_at_hit, line, line_at_empty, lived, search_result}
use Rattle.life.specs.declared.calls.Call.{Call}
use Rattle.life.specs.declared.calls.Call.TheVariants.{OnRow, Search as SearchFor, OnWalk, OnSetUp, OnPort}
use Rattle.life.specs.declared.calls.PortCall.{PortCall}
use Rattle.life.specs.declared.calls.PortCall.TheVariants.{StartInput, StartOutput, Stop, Block, Word}
use Rattle.life.specs.declared.calls.RowCall.{RowCall}
use Rattle.life.specs.declared.calls.RowCall.TheVariants.{Read, Write, Marks, SetMarks, ReadAtHit, WriteAtHit, ReadAtEmpty, WriteAtEmpty, Append, Purge, ClearAccess, Reset}
use Rattle.ports.specs.Input.{block_asks, ran}
use Rattle.processor.specs.Commands.{change_at}
use Rattle.std.proofs.lemmas.List.{length-map}
use Rattle.table.proofs.Changes.{length-change}
use Rattle.table.specs.Calls.{granted}
use Rattle.table.specs.Row.{Row, searched}
use Rattle.table.specs.declared.parts.Search.{Search}

length-granted : {X F : Type 0} (res : Result X F) (new old : List Row) → length new ≡ length old → length (granted res new old) ≡ length old
length-granted (Ok x) new old e = e
length-granted (Err f) new old e = refl

length-change_at : (f : Row → Row) (rs : List Row) (a : Option ℕ) → length (change_at f rs a) ≡ length rs
length-change_at f rs None = refl
length-change_at f rs (Some r) = length-change f rs r

length-ran : (q : Option Search) (rs : List Row) → length (ran q rs) ≡ length rs
length-ran None rs = refl
length-ran (Some q) rs = length-map rs (searched q)

depth_row : (s : State) (c : RowCall) → length (after s (OnRow c)).rows ≡ length s.rows
depth_row s (Read r g) = refl
depth_row s (Write r g v) = length-granted (cell s r g) _ s.rows (length-change _ s.rows r)
depth_row s (Marks r) = refl
depth_row s (SetMarks r m) = length-granted (line s r) _ s.rows (length-change _ s.rows r)
depth_row s (ReadAtHit g) = refl
depth_row s (WriteAtHit g v) = length-granted (cell_at_hit s g) _ s.rows (length-change_at _ s.rows s.registers.found.address)
depth_row s (ReadAtEmpty g) = refl
depth_row s (WriteAtEmpty g v) = length-granted (cell_at_empty s g) _ s.rows (length-change_at _ s.rows s.registers.empty)
depth_row s Append = length-granted (line_at_empty s) _ s.rows (length-change_at _ s.rows s.registers.empty)
depth_row s (Purge k) = length-map s.rows _
depth_row s ClearAccess = length-map s.rows _
depth_row s Reset = length-map s.rows _

depth_port : (s : State) (c : PortCall) → length (after s (OnPort c)).rows ≡ length s.rows
depth_port s (StartInput c n) = refl
depth_port s (StartOutput c n) = refl
depth_port s Stop = refl
depth_port s (Block v) = length-granted (block_result s v) _ s.rows (length-ran (block_asks s.registers v s.registers.input.sequence) s.rows)
depth_port s Word = refl

depth_after : (s : State) (c : Call) → length (after s c).rows ≡ length s.rows
depth_after s (OnRow c) = depth_row s c
depth_after s (SearchFor q) = length-granted (search_result s q) _ s.rows (length-map s.rows (searched q))
depth_after s (OnWalk c) = refl
depth_after s (OnSetUp c) = refl
depth_after s (OnPort c) = depth_port s c

pub depth_lived : (s : State) (calls : List Call) → length (lived s calls).rows ≡ length s.rows
unfolding lived
depth_lived s [] = refl
depth_lived s (c ∷ cs) = depth_lived (after s c) cs ∙ depth_after s c

pub depth_worked : {X F : Type 0} (res : Result X F) (s : State) (calls : List Call) → length (granted res (lived s calls) s).rows ≡ length s.rows
depth_worked (Ok x) s calls = depth_lived s calls
depth_worked (Err f) s calls = refl
