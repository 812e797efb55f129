-- What the lines of a listing do to a processor: calls are worked, questions change nothing. Assumes nothing.
--   calls_of    the calls among some lines, in order
use Rattle.std.specs.Prelude.{List, [], ◌∷◌, ◌++◌}
use Rattle.life.specs.Meaning.{State, after}
use Rattle.life.specs.declared.calls.Call.{Call}
use Rattle.listing.specs.declared.asks.Ask.{Ask}
use Rattle.listing.specs.declared.asks.Ask.TheVariants.{Call as Work, Register, Row, Rows, Flags}
use Rattle.listing.specs.declared.listings.Entry.{Entry}

abbrev pub call_in : Ask → List Call
call_in (Work c) = c ∷ []
call_in (Register r) = []
call_in (Row n) = []
call_in (Rows from count) = []
call_in (Flags kind starts) = []

unfoldable pub calls_of : List Entry → List Call
calls_of [] = []
calls_of (e ∷ es) = call_in e.line.ask ++ calls_of es

abbrev pub after_ask : State → Ask → State
after_ask s (Work c) = after s c
after_ask s (Register r) = s
after_ask s (Row n) = s
after_ask s (Rows from count) = s
after_ask s (Flags kind starts) = s
