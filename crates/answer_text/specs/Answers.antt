-- An address as text, in bytes. Assumes nothing.
use Rattle.std.specs.Prelude.{ℕ, List, ◌++◌, Some, None, codes, decimal, Option}

abbrev pub address_text : Option ℕ → List ℕ
address_text (Some row) = codes "row " ++ decimal row
address_text None = codes "none"
