-- Places, marks and addresses as text, in bytes. Assumes nothing.
--   given        a word that stands there only if something is set
use Rattle.std.specs.Prelude.{ℕ, Bool, cond, List, [], ◌++◌, codes}
use Rattle.table.specs.declared.faults.Place.{Place}
use Rattle.table.specs.declared.faults.Place.TheVariants.{Opening, Table, Command, SetUp, Start, Port, Flags}
use Rattle.table.specs.declared.parts.Marking.{Marking}
use Rattle.table.specs.declared.parts.Marks.{Marks}

abbrev pub place_text : Place → List ℕ
place_text Opening = codes "opening"
place_text Table = codes "table"
place_text Command = codes "command"
place_text SetUp = codes "set-up"
place_text Start = codes "start"
place_text Port = codes "port"
place_text Flags = codes "flags"

abbrev pub given : Bool → List ℕ → List ℕ
given set word = cond set word []

abbrev pub state_text : Bool → List ℕ
state_text empty = cond empty (codes "empty") (codes "valid")

abbrev pub marking_text : Marking → List ℕ
marking_text m = state_text m.empty ++ given m.access (codes " access")

abbrev pub marks_text : Marks → List ℕ
marks_text m = state_text m.empty ++ (given m.access (codes " access") ++ given m.hit (codes " hit"))
