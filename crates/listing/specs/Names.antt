-- The names of the kinds of flag. Assumes nothing.
use Rattle.std.specs.Prelude.{ℕ, List, codes}
use Rattle.listing.specs.declared.asks.FlagName.{FlagName}
use Rattle.listing.specs.declared.asks.FlagName.TheVariants.{Hit, Full}

abbrev pub flag_name : FlagName → List ℕ
flag_name Hit = codes "hit"
flag_name Full = codes "full"
