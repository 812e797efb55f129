-- The text of parts of what a register holds, as bytes. Assumes nothing.
--   flag_text, hit_text   a flag as a word, a hit of an input step as a digit
--   keys_text, hits_text  the eight keys, and the eight hits, with a space between each two
use Rattle.std.specs.Prelude.{ℕ, Bool, cond, List, codes}
use Rattle.std.specs.List.{join_by}
use Rattle.tokens.specs.Hex.{hex_text}

abbrev pub flag_text : Bool → List ℕ
flag_text set = cond set (codes "yes") (codes "no")

abbrev pub hit_text : Bool → List ℕ
hit_text set = cond set (codes "1") (codes "0")

abbrev pub keys_text : List ℕ → List ℕ
keys_text = join_by (hex_text 8) (codes " ")

abbrev pub hits_text : List Bool → List ℕ
hits_text = join_by hit_text (codes " ")
