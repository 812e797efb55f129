-- A device as a table: its width and rows, and the memory that its owner gets back. Assumes nothing.
use Rattle.std.specs.Prelude.{◌≡◌, ℕ, ◌*◌, List, [], ◌++◌, map, length, drop, replicate}
use Rattle.std.specs.Borrow.{MutBor}
use Rattle.device.specs.Layout.{byte_of, rows_of}
use Rattle.std.specs.List.{flat_map}
use Rattle.device.specs.Opening.{checked, depth_at}
use Rattle.device.specs.declared.device.Device.{Device}
use Rattle.table.specs.Calls.{granted}
use Rattle.table.specs.Row.{Row, cleared}

abbrev pub width_in : Device → ℕ
width_in d = d.width

abbrev pub rows_in : Device → List Row
rows_in d = rows_of d.words.now d.marks.now d.width d.depth

-- rows laid out one behind the other: their words, and a mark byte for each
unfoldable pub words_of : List Row → List ℕ
words_of rs = flat_map (λ row. row.words) rs

unfoldable pub bytes_of : List Row → List ℕ
bytes_of rs = map (λ row. byte_of row.marks) rs

-- what a call leaves of a device a: b works on the same memory, which holds b's rows and, past
-- them, what it held
pub record Frame (a b : Device) : Type 0 where
  pub lent_words : b.words.ghost_name ≡ a.words.ghost_name
  pub lent_marks : b.marks.ghost_name ≡ a.marks.ghost_name
  pub width : b.width ≡ a.width
  pub depth : b.depth ≡ a.depth
  pub words : b.words.now ≡ words_of (rows_in b) ++ drop (a.depth * a.width) a.words.now
  pub marks : b.marks.now ≡ bytes_of (rows_in b) ++ drop a.depth a.marks.now

-- a row as a device opens with it
abbrev pub new_row : ℕ → Row
new_row w = record { words = replicate w 0; marks = cleared }

-- a new device of a width over lent words and mark bytes
pub record Opened (w : ℕ) (ws ms : MutBor (List ℕ)) (d : Device) : Type 0 where
  pub lent_words : d.words.ghost_name ≡ ws.ghost_name
  pub lent_marks : d.marks.ghost_name ≡ ms.ghost_name
  pub width : d.width ≡ granted (checked w (length ws.now) (length ms.now)) w 1
  pub depth : d.depth ≡ granted (checked w (length ws.now) (length ms.now)) (depth_at w) 0
  pub words : d.words.now ≡ granted (checked w (length ws.now) (length ms.now)) (replicate (length ws.now) 0) ws.now
  pub marks : d.marks.now ≡ granted (checked w (length ws.now) (length ms.now)) (replicate (length ms.now) 128) ms.now
  pub rows : rows_in d ≡ granted (checked w (length ws.now) (length ms.now)) (replicate (depth_at w) (new_row w)) []
