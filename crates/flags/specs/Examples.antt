-- A table of five rows after a search, its flags at a cut, and cuts that are refused. Assumes nothing.
use Rattle.std.specs.Prelude.{◌≡◌, ℕ, Bool, true, false, List, [], ◌∷◌, map, Ok, Err, Result}
use Rattle.flags.specs.Cuts.{checked_cut, flags_so_far}
use Rattle.flags.specs.declared.faults.FlagsFault.{FlagsFault}
use Rattle.flags.specs.declared.faults.FlagsFault.TheVariants.{Length, Starts, Start}
use Rattle.flags.specs.declared.hit.HitFlag.TheVariants.{None, One, Several}
use Rattle.flags.specs.Kinds.{empty_at, full, full_from, hits_from}
use Rattle.table.specs.Row.{Row, searched}
use Rattle.table.specs.declared.parts.Search.{Search}

abbrev row_of : Bool → ℕ → Row
row_of e word = record { words = word ∷ []; marks = record { empty = e; access = false; hit = false } }

-- the words 5, 5, 5, 5, 6, row 1 empty, searched for 5: rows 0, 2 and 3 hit
abbrev for_five : Search
for_five = record { key = 5; mask = 0; segment = 0; head = true; access = false }

abbrev pub five_rows : List Row
five_rows = map (searched for_five) (row_of false 5 ∷ row_of true 5 ∷ row_of false 5 ∷ row_of false 5 ∷ row_of false 6 ∷ [])

abbrev pub HitsOfFive : Type 0
HitsOfFive = flags_so_far hits_from five_rows (0 ∷ 3 ∷ []) ≡ Several 0 ∷ Several 0 ∷ []

abbrev pub FullOfFive : Type 0
FullOfFive = flags_so_far full_from five_rows (0 ∷ 3 ∷ []) ≡ empty_at 1 ∷ empty_at 1 ∷ []

-- members of one row, of none, and of the rest
abbrev pub HitsByTurns : Type 0
HitsByTurns = flags_so_far hits_from five_rows (0 ∷ 0 ∷ 1 ∷ 2 ∷ 3 ∷ []) ≡ None ∷ One 0 ∷ One 0 ∷ Several 0 ∷ Several 0 ∷ []

abbrev pub FullByTurns : Type 0
FullByTurns = flags_so_far full_from five_rows (0 ∷ 1 ∷ 1 ∷ []) ≡ full ∷ full ∷ empty_at 1 ∷ []

abbrev Answered : ℕ → List ℕ → Result Unit FlagsFault → Type 0
Answered n cut r = checked_cut n cut 5 ≡ r

abbrev pub CutsChecked : Type 0
CutsChecked =
    Answered 2 (0 ∷ 3 ∷ []) (Ok tt) × Answered 2 (0 ∷ 5 ∷ []) (Ok tt) × Answered 1 (0 ∷ 3 ∷ []) (Err (Length 1 2)) × Answered 1 [] (Err (Length 1 0))
    × Answered 0 [] (Err (Starts 0)) × Answered 1 (1 ∷ []) (Err (Start 0)) × Answered 2 (0 ∷ 6 ∷ []) (Err (Start 1)) × Answered 3 (0 ∷ 3 ∷ 2 ∷ []) (Err (Start 2))
