-- What the two flags of all rows say, in the words of a table's questions. Assumes nothing.
--   hits_are    none, the first hit if no other follows it, or several from the first hit
use Rattle.std.specs.Prelude.{◌≡◌, ℕ, ◌+◌, List, Some, None, Option}
use Rattle.flags.specs.declared.hit.HitFlag.{HitFlag}
use Rattle.flags.specs.declared.hit.HitFlag.TheVariants.{None as NoHit, One, Several}
use Rattle.flags.specs.Kinds.{full_from, hits_from}
use Rattle.table.specs.Calls.{first}
use Rattle.table.specs.Row.{Row, is_empty, is_hit}

-- what a first hit comes to, with the hit that follows it
abbrev pub hit_and : ℕ → Option ℕ → HitFlag
hit_and a None = One a
hit_and a (Some b) = Several a

abbrev pub hits_are : List Row → Option ℕ → HitFlag
hits_are rs None = NoHit
hits_are rs (Some a) = hit_and a (first is_hit rs (a + 1))

abbrev pub HitsRead : Type 0
HitsRead = (rs : List Row) → hits_from rs 0 ≡ hits_are rs (first is_hit rs 0)

abbrev pub FullRead : Type 0
FullRead = (rs : List Row) → full_from rs 0 ≡ record { first_empty = first is_empty rs 0 }
