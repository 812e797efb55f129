-- The call that stands in a line from a place on. Assumes nothing.
--   …_call       the call whose name w stands from `start` to `at`: one of a group, or of the groups behind it
--   read_call    the call whose name is the next word, and the place behind its last word
use Rattle.std.specs.Prelude.{ℕ, cond, List, Ok, Err, codes}
use Rattle.call_text.specs.Parts.{ReadOf, after, input_at, into, marking_at, output_at, purge_at, search_at, two_numbers}
use Rattle.life.specs.declared.calls.Call.{Call}
use Rattle.life.specs.declared.calls.Call.TheVariants.{OnRow, Search as SearchFor, OnWalk, OnSetUp, OnPort}
use Rattle.life.specs.declared.calls.PortCall.TheVariants.{StartInput, StartOutput, Stop, Block, Word}
use Rattle.life.specs.declared.calls.RowCall.TheVariants.{Read, Write, Marks, SetMarks, ReadAtHit, WriteAtHit, ReadAtEmpty, WriteAtEmpty, Append, Purge, ClearAccess, Reset}
use Rattle.life.specs.declared.calls.SetUpCall.TheVariants.{InputStep, OutputStep, Blocks, BlockWidth}
use Rattle.life.specs.declared.calls.WalkCall.TheVariants.{Rewind, NextHit, FindEmpty, NextEmpty, Registers}
use Rattle.tokens.specs.Faults.{fault_at}
use Rattle.tokens.specs.Numbers.{number32, number64}
use Rattle.tokens.specs.Words.{is_text, next_end, next_word, word_start}
use Rattle.tokens.specs.declared.faults.Expected.TheVariants.{Call as ACall}

abbrev pub blocks_at : List ℕ → ℕ → ReadOf Call
blocks_at line at = after (number32 line at) (λ c. after (number64 line c.1) (λ t. into (λ s. OnSetUp (Blocks c.0 t.0 s)) (number64 line t.1)))

abbrev pub port_call : List ℕ → List ℕ → ℕ → ℕ → ReadOf Call
port_call line w start at =
    cond (is_text w (codes "start-input")) (into (λ p. OnPort (StartInput p.0 p.1)) (two_numbers line at))
    (cond (is_text w (codes "start-output")) (into (λ p. OnPort (StartOutput p.0 p.1)) (two_numbers line at))
    (cond (is_text w (codes "stop")) (Ok (OnPort Stop, at))
    (cond (is_text w (codes "block")) (into (λ v. OnPort (Block v)) (number32 line at))
    (cond (is_text w (codes "word")) (Ok (OnPort Word, at))
    (Err (fault_at start ACall))))))

abbrev pub set_up_call : List ℕ → List ℕ → ℕ → ℕ → ReadOf Call
set_up_call line w start at =
    cond (is_text w (codes "set-input")) (after (two_numbers line at) (λ p. into (λ t. OnSetUp (InputStep p.0.0 p.0.1 t)) (input_at line p.1)))
    (cond (is_text w (codes "set-output")) (after (two_numbers line at) (λ p. into (λ t. OnSetUp (OutputStep p.0.0 p.0.1 t)) (output_at line p.1)))
    (cond (is_text w (codes "set-blocks")) (blocks_at line at)
    (cond (is_text w (codes "set-width")) (into (λ b. OnSetUp (BlockWidth b)) (number32 line at))
    (port_call line w start at))))

abbrev pub walk_call : List ℕ → List ℕ → ℕ → ℕ → ReadOf Call
walk_call line w start at =
    cond (is_text w (codes "rewind")) (Ok (OnWalk Rewind, at))
    (cond (is_text w (codes "next-hit")) (Ok (OnWalk NextHit, at))
    (cond (is_text w (codes "find-empty")) (Ok (OnWalk FindEmpty, at))
    (cond (is_text w (codes "next-empty")) (Ok (OnWalk NextEmpty, at))
    (cond (is_text w (codes "registers")) (Ok (OnWalk Registers, at))
    (set_up_call line w start at)))))

abbrev pub table_call : List ℕ → List ℕ → ℕ → ℕ → ReadOf Call
table_call line w start at =
    cond (is_text w (codes "append")) (Ok (OnRow Append, at))
    (cond (is_text w (codes "purge")) (into (λ k. OnRow (Purge k)) (purge_at line at))
    (cond (is_text w (codes "clear-access")) (Ok (OnRow ClearAccess, at))
    (cond (is_text w (codes "reset")) (Ok (OnRow Reset, at))
    (walk_call line w start at))))

abbrev pub address_call : List ℕ → List ℕ → ℕ → ℕ → ReadOf Call
address_call line w start at =
    cond (is_text w (codes "read-hit")) (into (λ g. OnRow (ReadAtHit g)) (number32 line at))
    (cond (is_text w (codes "write-hit")) (into (λ p. OnRow (WriteAtHit p.0 p.1)) (two_numbers line at))
    (cond (is_text w (codes "read-empty")) (into (λ g. OnRow (ReadAtEmpty g)) (number32 line at))
    (cond (is_text w (codes "write-empty")) (into (λ p. OnRow (WriteAtEmpty p.0 p.1)) (two_numbers line at))
    (table_call line w start at))))

abbrev pub cell_call : List ℕ → List ℕ → ℕ → ℕ → ReadOf Call
cell_call line w start at =
    cond (is_text w (codes "read")) (into (λ p. OnRow (Read p.0 p.1)) (two_numbers line at))
    (cond (is_text w (codes "write")) (after (two_numbers line at) (λ p. into (λ v. OnRow (Write p.0.0 p.0.1 v)) (number32 line p.1)))
    (cond (is_text w (codes "marks")) (into (λ r. OnRow (Marks r)) (number32 line at))
    (cond (is_text w (codes "set-marks")) (after (number32 line at) (λ r. into (λ m. OnRow (SetMarks r.0 m)) (marking_at line r.1)))
    (cond (is_text w (codes "search")) (into SearchFor (search_at line at))
    (address_call line w start at)))))

abbrev pub read_call : List ℕ → ℕ → ReadOf Call
read_call line at = cell_call line (next_word line at) (word_start line at) (next_end line at)
