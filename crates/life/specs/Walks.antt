-- Walks over hits are complete. Assumes nothing.
--   Event        what a call is to a walk: an accepted search (also one that a block runs), a rewind,
--                a next-hit call, an accepted change of a row, or nothing of these
--   group        an accepted search with its head flag, and the accepted searches after it up to the
--                next with the flag
--   walk         a rewind in a group, or the group's latest search, and the next-hit calls after it
--   Place        where a life stands: outside, as long as no group began or once a row changed since
--                it began; or at call n of a walk, in a group that began over rows R, with its searches
--   matched      a row that is valid and agrees with every search
--   Lowest       the n-th lowest row that passes a test, or none if fewer pass
use Rattle.std.specs.Prelude.{◌≡◌, ℕ, ◌+◌, ◌<◌, ◌≤◌, Bool, true, cond, not, ◌&&◌, List, [], ◌∷◌, ◌++◌, length, take, Some, None, filter, Option, slice_index}
use Rattle.life.specs.Meaning.{State, after, block_result, cell, cell_at_empty, cell_at_hit, line, line_at_empty, lived, search_result}
use Rattle.life.specs.declared.calls.Call.{Call}
use Rattle.life.specs.declared.calls.Call.TheVariants.{OnRow, Search as SearchFor, OnWalk, OnSetUp, OnPort}
use Rattle.life.specs.declared.calls.PortCall.{PortCall}
use Rattle.life.specs.declared.calls.PortCall.TheVariants.{StartInput, StartOutput, Stop, Block, Word}
use Rattle.life.specs.declared.calls.RowCall.{RowCall}
use Rattle.life.specs.declared.calls.RowCall.TheVariants.{Read, Write, Marks, SetMarks, ReadAtHit, WriteAtHit, ReadAtEmpty, WriteAtEmpty, Append, Purge, ClearAccess, Reset}
use Rattle.life.specs.declared.calls.WalkCall.{WalkCall}
use Rattle.life.specs.declared.calls.WalkCall.TheVariants.{Rewind, NextHit, FindEmpty, NextEmpty, Registers as TellRegisters}
use Rattle.ports.specs.Input.{block_asks}
use Rattle.table.specs.Calls.{granted, row_at}
use Rattle.table.specs.Row.{Row, agrees, is_empty}
use Rattle.table.specs.declared.parts.Search.{Search}

pub data Event : Type 0 where
  searches : Search → Event
  rewinds : Event
  moves : Event
  changes : Event
  neither : Event

abbrev pub if_any : Option Search → Event
if_any None = neither
if_any (Some q) = searches q

abbrev pub row_event : State → RowCall → Event
row_event s (Read r g) = neither
row_event s (Write r g v) = granted (cell s r g) changes neither
row_event s (Marks r) = neither
row_event s (SetMarks r m) = granted (line s r) changes neither
row_event s (ReadAtHit g) = neither
row_event s (WriteAtHit g v) = granted (cell_at_hit s g) changes neither
row_event s (ReadAtEmpty g) = neither
row_event s (WriteAtEmpty g v) = granted (cell_at_empty s g) changes neither
row_event s Append = granted (line_at_empty s) changes neither
row_event s (Purge k) = changes
row_event s ClearAccess = neither
row_event s Reset = changes

abbrev pub walk_event : WalkCall → Event
walk_event Rewind = rewinds
walk_event NextHit = moves
walk_event FindEmpty = neither
walk_event NextEmpty = neither
walk_event TellRegisters = neither

abbrev pub port_event : State → PortCall → Event
port_event s (StartInput c n) = neither
port_event s (StartOutput c n) = neither
port_event s Stop = neither
port_event s (Block v) = granted (block_result s v) (if_any (block_asks s.registers v s.registers.input.sequence)) neither
port_event s Word = neither

abbrev pub event_of : State → Call → Event
event_of s (OnRow c) = row_event s c
event_of s (SearchFor q) = granted (search_result s q) (searches q) neither
event_of s (OnWalk c) = walk_event c
event_of s (OnSetUp c) = neither
event_of s (OnPort c) = port_event s c

pub data Place : Type 0 where
  outside : Place
  walking : List Row → List Search → ℕ → Place

-- a search that does not begin a group goes on with the one that there is
abbrev pub joined : Search → Place → Place
joined q outside = outside
joined q (walking R S n) = walking R (S ++ q ∷ []) 1

abbrev pub rewound : Place → Place
rewound outside = outside
rewound (walking R S n) = walking R S 1

abbrev pub moved : Place → Place
moved outside = outside
moved (walking R S n) = walking R S (n + 1)

-- the place after an event, over the rows before it
abbrev pub led : Event → List Row → Place → Place
led (searches q) rs p = cond q.head (walking rs (q ∷ []) 1) (joined q p)
led rewinds rs p = rewound p
led moves rs p = moved p
led changes rs p = outside
led neither rs p = p

unfoldable pub place_after : Place → State → List Call → Place
place_after p s [] = p
place_after p s (c ∷ cs) = place_after (led (event_of s c) s.rows p) (after s c) cs

abbrev pub agrees_with : List Search → List ℕ → Bool
agrees_with [] words = true
agrees_with (q ∷ S) words = agrees q (slice_index words q.segment) && agrees_with S words

abbrev pub matched : List Search → Row → Bool
matched S row = not (is_empty row) && agrees_with S row.words

abbrev pub count : (Row → Bool) → List Row → ℕ
count p rs = length (filter p rs)

abbrev pub Lowest : (Row → Bool) → List Row → ℕ → Option ℕ → Type 0
Lowest p rs n None = count p rs < n
Lowest p rs n (Some a) = (a < length rs) × (p (row_at rs a) ≡ true) × (count p (take a rs) + 1 ≡ n)

-- what a hit address is at a place
abbrev pub Named : Place → Option ℕ → Type 0
Named outside a = Unit {0}
Named (walking R S n) a = Lowest (matched S) R n a

-- After every call of a life that begins in state s, at call n of a walk, the hit address is the n-th
-- lowest of the rows that were valid and agreed with every search of the group so far, or none if
-- there are fewer than n.
abbrev pub WalksComplete : State → List Call → Type 0
WalksComplete s calls = (k : ℕ) → k ≤ length calls → Named (place_after outside s (take k calls)) (lived s (take k calls)).registers.found.address
