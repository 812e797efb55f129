-- The number and the place of each refusal of a table. Assumes nothing.
use Rattle.std.specs.Prelude.{ℕ}
use Rattle.table.specs.declared.faults.Place.{Place}
use Rattle.table.specs.declared.faults.Place.TheVariants.{Table}
use Rattle.table.specs.declared.faults.TableFault.{TableFault}
use Rattle.table.specs.declared.faults.TableFault.TheVariants.{Row, Segment}

abbrev pub number_of : TableFault → ℕ
number_of (Row r) = 3
number_of (Segment s) = 4

abbrev pub place_of : TableFault → Place
place_of (Row r) = Table
place_of (Segment s) = Table
