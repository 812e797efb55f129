-- What an opening checks, and the number and place of its refusals. Assumes nothing.
use Rattle.std.specs.Prelude.{ℕ, ◌*◌, ◌/◌, cond, ◌&&◌, Ok, Err, Result, ◌==◌, nat_le}
use Rattle.device.specs.declared.opening.OpenFault.{OpenFault}
use Rattle.device.specs.declared.opening.OpenFault.TheVariants.{Width, Memory}
use Rattle.table.specs.declared.faults.Place.{Place}
use Rattle.table.specs.declared.faults.Place.TheVariants.{Opening}

abbrev pub number_of : OpenFault → ℕ
number_of (Width w) = 1
number_of (Memory n m) = 2

abbrev pub place_of : OpenFault → Place
place_of (Width w) = Opening
place_of (Memory n m) = Opening

-- a width of 1 to 8, then exactly 8,192 words and 8,192 mark bytes
abbrev pub checked : ℕ → ℕ → ℕ → Result Unit OpenFault
checked w n m = cond (nat_le 1 w && nat_le w 8) (cond (n == 8192 && m == 8192) (Ok tt) (Err (Memory n m))) (Err (Width w))

abbrev pub depth_at : ℕ → ℕ
depth_at w = 4 * (2048 / w)
