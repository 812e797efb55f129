-- The cascade of some members, behind their fences, each in 8,192 words and mark bytes. Assumes nothing.
--   places_for    how many places the smallest cascade has that holds so many members
--   CascadeTold   what work on the two halves of the cascade of some seats comes to
use Rattle.std.specs.Prelude.{◌≡◌, ℕ, ◌*◌, Bool, true, false, cond, ◌&&◌, List, length, Ok, Err, Result, nat_le}
use Rattle.cascade.specs.Levels.{Told, level_rows, level_width}
use Rattle.cascade.specs.Seats.{device_rows, device_width, fenced_rows, member_rows, member_width, planes_rows}
use Rattle.cascade.specs.declared.plans.CascadeFault.{CascadeFault}
use Rattle.cascade.specs.declared.plans.CascadeFault.TheVariants.{Members, NoMemory}
use Rattle.cascade.specs.declared.plans.Seat.{Seat}
use Rattle.table.specs.Row.{Row}

abbrev pub places_for : ℕ → ℕ
places_for n = cond (nat_le n 2) 2 (cond (nat_le n 4) 4 (cond (nat_le n 8) 8 (cond (nat_le n 16) 16 32)))

module _ {Out : Type 0} (tells : ℕ → ℕ → List Row → List Row → Out → Type 0)
    (width : List Seat → ℕ → ℕ → ℕ) (rows : List Seat → ℕ → ℕ → List Row) where
  abbrev pub LevelTold : ℕ → List Seat → ℕ → ℕ → Out → Type 0
  LevelTold k seats n m r = Told tells (level_width k width) (level_rows k width rows) seats n m r

  -- by how many places there are
  abbrev pub PlacesTold : List Seat → ℕ → ℕ → ℕ → Out → Type 0
  PlacesTold seats places n m r =
      cond (nat_le places 2) (LevelTold 0 seats n m r) (cond (nat_le places 4) (LevelTold 1 seats n m r)
      (cond (nat_le places 8) (LevelTold 2 seats n m r) (cond (nat_le places 16) (LevelTold 3 seats n m r) (LevelTold 4 seats n m r))))

-- a member behind its fence
abbrev pub member_seat_width : List Seat → ℕ → ℕ → ℕ
member_seat_width = member_width device_width 2

abbrev pub member_seat_rows : List Seat → ℕ → ℕ → List Row
member_seat_rows = fenced_rows (member_rows device_rows planes_rows)

abbrev pub CascadeTold : {Out : Type 0} → (ℕ → ℕ → List Row → List Row → Out → Type 0) → List Seat → Out → Type 0
CascadeTold tells seats r =
    PlacesTold tells member_seat_width member_seat_rows seats (length seats) (8192 * places_for (length seats)) (8192 * places_for (length seats)) r

-- a cascade has 1 to 32 members
abbrev pub countable : ℕ → Bool
countable n = nat_le 1 n && nat_le n 32

-- what is answered: the work is done, or nothing is done, for want of members or of memory
abbrev pub CascadeAnswer : {Out : Type 0} → (ℕ → ℕ → List Row → List Row → Out → Type 0) → List Seat → Result Out CascadeFault → Type 0
CascadeAnswer tells seats (Ok out) = (countable (length seats) ≡ true) × CascadeTold tells seats out
CascadeAnswer tells seats (Err (Members n)) = (countable (length seats) ≡ false) × (n ≡ length seats)
CascadeAnswer tells seats (Err NoMemory) = countable (length seats) ≡ true
