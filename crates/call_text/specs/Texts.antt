-- The text of each call: its name, its numbers and its flags, one space between words. Assumes nothing.
--   number, word, long    a space, and a number: decimal, as 8 hexadecimal digits, as 16
--   flag                  a space and the flag's name, where the flag is set
use Rattle.std.specs.Prelude.{ℕ, Bool, cond, List, [], ◌∷◌, ◌++◌, codes, decimal}
use Rattle.life.specs.declared.calls.Call.{Call}
use Rattle.life.specs.declared.calls.Call.TheVariants.{OnRow, Search as SearchFor, OnWalk, OnSetUp, OnPort}
use Rattle.life.specs.declared.calls.PortCall.{PortCall}
use Rattle.life.specs.declared.calls.PortCall.TheVariants.{StartInput, StartOutput, Stop, Block, Word}
use Rattle.life.specs.declared.calls.RowCall.{RowCall}
use Rattle.life.specs.declared.calls.RowCall.TheVariants.{Read, Write, Marks, SetMarks, ReadAtHit, WriteAtHit, ReadAtEmpty, WriteAtEmpty, Append, Purge as PurgeRows, ClearAccess, Reset}
use Rattle.life.specs.declared.calls.SetUpCall.{SetUpCall}
use Rattle.life.specs.declared.calls.SetUpCall.TheVariants.{InputStep as SetInput, OutputStep as SetOutput, Blocks, BlockWidth}
use Rattle.life.specs.declared.calls.WalkCall.{WalkCall}
use Rattle.life.specs.declared.calls.WalkCall.TheVariants.{Rewind, NextHit, FindEmpty, NextEmpty, Registers}
use Rattle.registers.specs.Texts.{item_text}
use Rattle.registers.specs.declared.setting.InputStep.{InputStep}
use Rattle.registers.specs.declared.setting.OutputStep.{OutputStep}
use Rattle.table.specs.declared.parts.Purge.{Purge}
use Rattle.table.specs.declared.parts.Purge.TheVariants.{All, WithAccess, WithoutAccess}
use Rattle.table.specs.declared.parts.Search.{Search}
use Rattle.tokens.specs.Hex.{hex_text}

abbrev pub number : ℕ → List ℕ
number n = 32 ∷ decimal n

abbrev pub word : ℕ → List ℕ
word n = 32 ∷ hex_text 8 n

abbrev pub long : ℕ → List ℕ
long n = 32 ∷ hex_text 16 n

abbrev pub flag : Bool → List ℕ → List ℕ
flag set name = cond set (32 ∷ name) []

abbrev pub state_name : Bool → List ℕ
state_name empty = cond empty (codes "empty") (codes "valid")

abbrev pub purge_name : Purge → List ℕ
purge_name All = codes "all"
purge_name WithAccess = codes "with-access"
purge_name WithoutAccess = codes "without-access"

abbrev pub row_text : RowCall → List ℕ
row_text (Read r g) = codes "read" ++ (number r ++ number g)
row_text (Write r g w) = codes "write" ++ (number r ++ (number g ++ word w))
row_text (Marks r) = codes "marks" ++ number r
row_text (SetMarks r m) = codes "set-marks" ++ (number r ++ (32 ∷ (state_name m.empty ++ flag m.access (codes "access"))))
row_text (ReadAtHit g) = codes "read-hit" ++ number g
row_text (WriteAtHit g w) = codes "write-hit" ++ (number g ++ word w)
row_text (ReadAtEmpty g) = codes "read-empty" ++ number g
row_text (WriteAtEmpty g w) = codes "write-empty" ++ (number g ++ word w)
row_text Append = codes "append"
row_text (PurgeRows k) = codes "purge" ++ (32 ∷ purge_name k)
row_text ClearAccess = codes "clear-access"
row_text Reset = codes "reset"

abbrev pub search_text : Search → List ℕ
search_text q = codes "search" ++ (word q.key ++ (word q.mask ++ (number q.segment ++ (flag q.head (codes "head") ++ flag q.access (codes "access")))))

abbrev pub walk_name : WalkCall → List ℕ
walk_name Rewind = codes "rewind"
walk_name NextHit = codes "next-hit"
walk_name FindEmpty = codes "find-empty"
walk_name NextEmpty = codes "next-empty"
walk_name Registers = codes "registers"

abbrev pub input_text : InputStep → List ℕ
input_text t = hex_text 8 t.mask ++ (number t.shift ++ (number t.segment ++ (flag t.head (codes "head") ++ (flag t.access (codes "access") ++ flag t.end (codes "end")))))

abbrev pub output_text : OutputStep → List ℕ
output_text t = item_text t.item ++ flag t.end (codes "end")

abbrev pub set_up_text : SetUpCall → List ℕ
set_up_text (SetInput c s t) = codes "set-input" ++ (number c ++ (number s ++ (32 ∷ input_text t)))
set_up_text (SetOutput c s t) = codes "set-output" ++ (number c ++ (number s ++ (32 ∷ output_text t)))
set_up_text (Blocks c t s) = codes "set-blocks" ++ (number c ++ (long t ++ long s))
set_up_text (BlockWidth b) = codes "set-width" ++ number b

abbrev pub port_text : PortCall → List ℕ
port_text (StartInput c s) = codes "start-input" ++ (number c ++ number s)
port_text (StartOutput c s) = codes "start-output" ++ (number c ++ number s)
port_text Stop = codes "stop"
port_text (Block v) = codes "block" ++ word v
port_text Word = codes "word"

abbrev pub call_text : Call → List ℕ
call_text (OnRow c) = row_text c
call_text (SearchFor q) = search_text q
call_text (OnWalk c) = walk_name c
call_text (OnSetUp c) = set_up_text c
call_text (OnPort c) = port_text c
