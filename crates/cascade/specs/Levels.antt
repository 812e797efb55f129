-- Cascades by halves: k times, two halves are joined. Assumes nothing.
--   level_width, level_rows   what is built after k times, from what is built for one place
--   Told                      what work on the two halves of a cascade comes to
use Rattle.std.specs.Prelude.{ℕ, zero, suc, ◌-◌, ◌/◌, List, length, take, drop}
use Rattle.cascade.specs.Seats.{pair_rows, pair_width}
use Rattle.cascade.specs.declared.plans.Seat.{Seat}
use Rattle.table.specs.Row.{Row}

abbrev pub level_width : ℕ → (List Seat → ℕ → ℕ → ℕ) → List Seat → ℕ → ℕ → ℕ
level_width zero width = width
level_width (suc k) width = level_width k (pair_width width width)

abbrev pub level_rows : ℕ → (List Seat → ℕ → ℕ → ℕ) → (List Seat → ℕ → ℕ → List Row) → List Seat → ℕ → ℕ → List Row
level_rows zero width rows = rows
level_rows (suc k) width rows = level_rows k (pair_width width width) (pair_rows width width rows rows)

abbrev pub Told : {Out : Type 0} → (ℕ → ℕ → List Row → List Row → Out → Type 0) → (List Seat → ℕ → ℕ → ℕ) → (List Seat → ℕ → ℕ → List Row) → List Seat → ℕ → ℕ → Out → Type 0
Told tells width rows seats n m r =
    tells (width (take (length seats / 2) seats) (n / 2) (m / 2)) (width (drop (length seats / 2) seats) (n - n / 2) (m - m / 2))
    (rows (take (length seats / 2) seats) (n / 2) (m / 2)) (rows (drop (length seats / 2) seats) (n - n / 2) (m - m / 2)) r
