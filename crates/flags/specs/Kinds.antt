-- The two kinds of flag that come with a table. Assumes nothing.
--   hits_from   the hit flag of a list of rows, the first of which has the number n
--   full_from   the full flag of such a list
use Rattle.std.specs.Prelude.{ℕ, suc, cond, List, [], ◌∷◌, None, Some}
use Rattle.flags.specs.declared.full.FullFlag.{FullFlag}
use Rattle.flags.specs.declared.hit.HitFlag.{HitFlag}
use Rattle.flags.specs.declared.hit.HitFlag.TheVariants.{None as NoHit, One, Several}
use Rattle.std.specs.Option.{option_or}
use Rattle.table.specs.Row.{Row, is_empty, is_hit}

-- a hit at row a, and then those of x
abbrev pub hit_then : ℕ → HitFlag → HitFlag
hit_then a NoHit = One a
hit_then a (One b) = Several a
hit_then a (Several b) = Several a

abbrev pub hits_joined : HitFlag → HitFlag → HitFlag
hits_joined NoHit x = x
hits_joined (One a) x = hit_then a x
hits_joined (Several a) x = Several a

unfoldable pub hits_from : List Row → ℕ → HitFlag
hits_from [] n = NoHit
hits_from (row ∷ rs) n = cond (is_hit row) (hit_then n (hits_from rs (suc n))) (hits_from rs (suc n))

abbrev pub full : FullFlag
full = record { first_empty = None }

abbrev pub empty_at : ℕ → FullFlag
empty_at n = record { first_empty = Some n }

abbrev pub full_joined : FullFlag → FullFlag → FullFlag
full_joined x y = record { first_empty = option_or x.first_empty y.first_empty }

unfoldable pub full_from : List Row → ℕ → FullFlag
full_from [] n = full
full_from (row ∷ rs) n = cond (is_empty row) (empty_at n) (full_from rs (suc n))
