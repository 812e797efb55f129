-- What searches and walks leave in the registers, from the rows. Assumes nothing.
--   after                    the first row behind an address that passes a test; behind none there is none
--   found_in                 what a search has found once it left these rows
--   moved_to                 the same, with another hit address
--   with_found, with_empty   the registers with what was found, or with the empty address, replaced
use Rattle.std.specs.Prelude.{ℕ, ◌+◌, Bool, List, is_some, Some, None, Option}
use Rattle.registers.specs.declared.state.Found.{Found}
use Rattle.registers.specs.declared.state.Registers.{Registers}
use Rattle.table.specs.Calls.{first}
use Rattle.table.specs.Row.{Row, is_hit}

abbrev pub after : (Row → Bool) → List Row → Option ℕ → Option ℕ
after p rs None = None
after p rs (Some row) = first p rs (row + 1)

-- several says whether another hit follows the first
abbrev pub found_in : List Row → Found
found_in rs = record { address = first is_hit rs 0; hit = is_some (first is_hit rs 0); several = is_some (after is_hit rs (first is_hit rs 0)) }

abbrev pub moved_to : Option ℕ → Found → Found
moved_to address f = record { address = address; hit = f.hit; several = f.several }

abbrev pub with_found : Found → Registers → Registers
with_found f g = record { found = f; empty = g.empty; input = g.input; output = g.output; setup = g.setup }

abbrev pub with_empty : Option ℕ → Registers → Registers
with_empty address g = record { found = g.found; empty = address; input = g.input; output = g.output; setup = g.setup }
