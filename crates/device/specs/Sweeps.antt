-- A change that goes over the marks of every row alike. Assumes nothing.
use Rattle.table.specs.Row.{Row}
use Rattle.table.specs.declared.parts.Marks.{Marks}

abbrev pub row_after : (Marks → Marks) → Row → Row
row_after change row = record { words = row.words; marks = change row.marks }
