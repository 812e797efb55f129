-- The number and the place of each refusal of the flags call. Assumes nothing.
use Rattle.std.specs.Prelude.{ℕ}
use Rattle.flags.specs.declared.faults.FlagsFault.{FlagsFault}
use Rattle.flags.specs.declared.faults.FlagsFault.TheVariants.{Length, Starts, Start}
use Rattle.table.specs.declared.faults.Place.{Place}
use Rattle.table.specs.declared.faults.Place.TheVariants.{Flags}

abbrev pub number_of : FlagsFault → ℕ
number_of (Length n m) = 15
number_of (Starts n) = 16
number_of (Start i) = 16

abbrev pub place_of : FlagsFault → Place
place_of (Length n m) = Flags
place_of (Starts n) = Flags
place_of (Start i) = Flags
