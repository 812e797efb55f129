-- The text of a flag, as bytes. Assumes nothing.
use Rattle.std.specs.Prelude.{ℕ, List, ◌++◌, None, Some, Option, codes, decimal}
use Rattle.flags.specs.declared.full.FullFlag.{FullFlag}
use Rattle.flags.specs.declared.hit.HitFlag.{HitFlag}
use Rattle.flags.specs.declared.hit.HitFlag.TheVariants.{None as NoHit, One, Several}

abbrev pub hit_text : HitFlag → List ℕ
hit_text NoHit = codes "none"
hit_text (One row) = codes "one " ++ decimal row
hit_text (Several row) = codes "several " ++ decimal row

abbrev empty_text : Option ℕ → List ℕ
empty_text None = codes "full"
empty_text (Some row) = codes "empty " ++ decimal row

abbrev pub full_text : FullFlag → List ℕ
full_text flag = empty_text flag.first_empty
