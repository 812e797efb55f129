-- Worked examples of the definitions, as one list. Assumes nothing.
use Rattle.std.specs.Prelude.{◌≡◌, ℕ, Bool, true, false, List, [], ◌∷◌, map, length, Some, None, Ok, Err}
use Rattle.device.specs.Opening.{checked, depth_at}
use Rattle.device.specs.declared.opening.OpenFault.TheVariants.{Width, Memory}
use Rattle.fence.specs.Shown.{shown}
use Rattle.flags.specs.Cuts.{flags_so_far}
use Rattle.flags.specs.Kinds.{empty_at, full_from, hits_from}
use Rattle.flags.specs.declared.hit.HitFlag.TheVariants.{Several}
use Rattle.join.specs.Joined.{join_rows}
use Rattle.life.specs.Meaning.{replies}
use Rattle.life.specs.declared.calls.Answer.TheVariants.{Address}
use Rattle.life.specs.declared.calls.Call.{Call}
use Rattle.life.specs.declared.calls.Call.TheVariants.{Search as SearchFor, OnWalk}
use Rattle.life.specs.declared.calls.WalkCall.TheVariants.{Rewind, NextHit}
use Rattle.ports.specs.Blocks.{FourKeys}
use Rattle.registers.specs.Fresh.{fresh}
use Rattle.table.specs.Calls.{on_cell}
use Rattle.table.specs.Row.{Row, is_hit, searched}
use Rattle.table.specs.declared.faults.TableFault.TheVariants.{Row as NoRow, Segment as NoSegment}
use Rattle.table.specs.declared.parts.Search.{Search}

abbrev row_of : Bool → List ℕ → Row
row_of e words = record { words = words; marks = record { empty = e; access = false; hit = false } }

-- T has width 2, U has width 1
abbrev pub rows_t : List Row
rows_t = row_of false (5 ∷ 7 ∷ []) ∷ row_of true (5 ∷ 7 ∷ []) ∷ row_of false (5 ∷ 9 ∷ []) ∷ []

abbrev pub rows_u : List Row
rows_u = row_of false (5 ∷ []) ∷ row_of false (6 ∷ []) ∷ []

abbrev pub rows_tu : List Row
rows_tu = join_rows 262144 1 rows_t rows_u

abbrev for_five : Search
for_five = record { key = 5; mask = 0; segment = 0; head = true; access = false }

abbrev then_nine : Search
then_nine = record { key = 9; mask = 0; segment = 1; head = false; access = false }

abbrev hits_in : List Row → List Bool
hits_in rs = map is_hit rs

abbrev after_five : List Row → List Row
after_five rs = map (searched for_five) rs

abbrev walk : List Call
walk = SearchFor for_five ∷ SearchFor then_nine ∷ OnWalk Rewind ∷ OnWalk NextHit ∷ []

pub record Sums : Type 0 where
  pub depths : (depth_at 1 ≡ 8192) × (depth_at 3 ≡ 2728) × (depth_at 8 ≡ 1024)
  pub widths : (checked 0 8192 8192 ≡ Err (Width 0)) × (checked 9 8192 8192 ≡ Err (Width 9)) × (checked 8 8192 8192 ≡ Ok tt)
  pub memory : (checked 1 8191 8192 ≡ Err (Memory 8191 8192)) × (checked 1 8192 8193 ≡ Err (Memory 8192 8193))
  pub keys : FourKeys
  pub hits : hits_in (after_five rows_t) ≡ true ∷ false ∷ true ∷ []
  pub steps : hits_in (map (searched then_nine) (after_five rows_t)) ≡ false ∷ false ∷ true ∷ []
  pub walked : replies record { width = 2; rows = rows_t; registers = fresh } walk ≡ Ok (Address (Some 0)) ∷ Ok (Address (Some 2)) ∷ Ok (Address (Some 2)) ∷ Ok (Address None) ∷ []
  pub joined : (length rows_tu ≡ 5) × (hits_in (after_five rows_tu) ≡ true ∷ false ∷ true ∷ true ∷ false ∷ [])
  pub refused : (on_cell {X = ℕ} 1 rows_tu 5 0 0 ≡ Err (NoRow 5)) × (on_cell {X = ℕ} 1 rows_tu 4 1 0 ≡ Err (NoSegment 1))
  pub fenced : (length (shown 2 rows_tu) ≡ 3) × (hits_in (after_five (shown 2 rows_tu)) ≡ true ∷ true ∷ false ∷ [])
  pub flagged : (flags_so_far hits_from (after_five rows_tu) (0 ∷ 3 ∷ []) ≡ Several 0 ∷ Several 0 ∷ []) × (flags_so_far full_from (after_five rows_tu) (0 ∷ 3 ∷ []) ≡ empty_at 1 ∷ empty_at 1 ∷ [])
