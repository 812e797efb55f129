-- What is built for the seats of a cascade: its width and its rows, from the seats and from how many
-- words n and mark bytes m there are. Assumes nothing.
--   seat_in                 the first seat; a missing one is vacant
--   opened_width, -Rows     a device of a width, as it opens
--   at_seat                 what is opened at the width that the first seat asks for
--   device_width, -Rows     a device of the seat's width, as it opens
--   planes_rows             a bit-plane table's rows, as it opens; it has two segments
--   member_width, -Rows     whichever of these the seat asks for, or nothing
--   fenced_rows             what the seat's fence shows of that
--   pair_width, -Rows       two halves joined, each for half of the seats and with half of the memory
use Rattle.std.specs.Prelude.{ℕ, ◌-◌, ◌/◌, min, List, [], ◌∷◌, length, take, drop, replicate}
use Rattle.cascade.specs.declared.plans.Kind.{Kind}
use Rattle.cascade.specs.declared.plans.Kind.TheVariants.{Device, Planes, Vacant}
use Rattle.cascade.specs.declared.plans.Seat.{Seat}
use Rattle.device.specs.Opening.{checked, depth_at}
use Rattle.device.specs.Rows.{new_row}
use Rattle.fence.specs.Shown.{shown}
use Rattle.join.specs.Joined.{join_rows}
use Rattle.table.specs.Calls.{granted}
use Rattle.table.specs.Row.{Row}

abbrev pub seat_in : List Seat → Seat
seat_in [] = record { kind = Vacant; hidden = 0 }
seat_in (seat ∷ seats) = seat

abbrev pub width_asked : Kind → ℕ
width_asked (Device w) = w
width_asked Planes = 0
width_asked Vacant = 0

abbrev pub opened_width : ℕ → ℕ → ℕ → ℕ
opened_width w n m = granted (checked w n m) w 1

abbrev pub opened_rows : ℕ → ℕ → ℕ → List Row
opened_rows w n m = granted (checked w n m) (replicate (depth_at w) (new_row w)) []

abbrev pub at_seat : {X : Type 0} → (ℕ → ℕ → ℕ → X) → List Seat → ℕ → ℕ → X
at_seat opened seats n m = opened (width_asked (seat_in seats).kind) n m

abbrev pub device_width : List Seat → ℕ → ℕ → ℕ
device_width = at_seat opened_width

abbrev pub device_rows : List Seat → ℕ → ℕ → List Row
device_rows = at_seat opened_rows

abbrev pub planes_rows : List Row
planes_rows = replicate 64 (new_row 2)

abbrev pub chosen : {X : Type 0} → Kind → X → X → X → X
chosen (Device w) device planes none = device
chosen Planes device planes none = planes
chosen Vacant device planes none = none

abbrev pub member_width : (List Seat → ℕ → ℕ → ℕ) → ℕ → List Seat → ℕ → ℕ → ℕ
member_width device planes seats n m = chosen (seat_in seats).kind (device seats n m) planes 8

abbrev pub member_rows : (List Seat → ℕ → ℕ → List Row) → List Row → List Seat → ℕ → ℕ → List Row
member_rows device planes seats n m = chosen (seat_in seats).kind (device seats n m) planes []

module _ (width_u width_l : List Seat → ℕ → ℕ → ℕ) where
  abbrev pub pair_width : List Seat → ℕ → ℕ → ℕ
  pair_width seats n m = min (width_u (take (length seats / 2) seats) (n / 2) (m / 2)) (width_l (drop (length seats / 2) seats) (n - n / 2) (m - m / 2))

  abbrev pub pair_rows : (List Seat → ℕ → ℕ → List Row) → (List Seat → ℕ → ℕ → List Row) → List Seat → ℕ → ℕ → List Row
  pair_rows rows_u rows_l seats n m =
      join_rows 262144 (pair_width seats n m) (rows_u (take (length seats / 2) seats) (n / 2) (m / 2)) (rows_l (drop (length seats / 2) seats) (n - n / 2) (m - m / 2))

abbrev pub fenced_rows : (List Seat → ℕ → ℕ → List Row) → List Seat → ℕ → ℕ → List Row
fenced_rows rows seats n m = shown (seat_in seats).hidden (rows seats n m)
