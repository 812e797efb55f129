-- Walks are complete in every life. Assumes nothing.
--   Good   what holds at a place: in a group the hit marks tell what matched, and the address is named
use Rattle.std.proofs.Common.{◌≡◌, ℕ, ◌+◌, Bool, true, false, cond, ◌⊎◌, List, [], ◌∷◌, ◌++◌, map, take, Some, None, Option, refl, inl, inr}
use Rattle.life.proofs.Counts.{lowest_first, lowest_next, lowest_none}
use Rattle.life.proofs.Effects.{Does, address, effect}
use Rattle.life.proofs.Groups.{Stands, least_matched, stands_head, stands_next, stands_unvisited}
use Rattle.life.specs.Meaning.{State, after, lived}
use Rattle.life.specs.Walks.{Event, Lowest, Named, Place, WalksComplete, changes, event_of, led, joined, matched, moves, neither, outside, place_after, rewinds, searches, walking}
use Rattle.life.specs.declared.calls.Call.{Call}
use Rattle.processor.specs.Walks.{after as address_after}
use Rattle.registers.specs.declared.state.Registers.{Registers}
use Rattle.std.specs.List.{AllZip}
use Rattle.table.proofs.First.{first_least}
use Rattle.table.specs.Calls.{first}
use Rattle.table.specs.Row.{Row, is_hit, searched, unvisited}
use Rattle.table.specs.declared.parts.Search.{Search}

abbrev Good : Place → List Row → Option ℕ → Type 0
Good outside rs a = Unit {0}
Good (walking R S n) rs a = AllZip (Stands S) R rs × Lowest (matched S) R n a

-- the first hit is the lowest row that matched
good_first : (R rs : List Row) (S : List Search) → AllZip (Stands S) R rs → Good (walking R S 1) rs (first is_hit rs 0)
good_first R rs S h = (h, lowest_first (matched S) R (first is_hit rs 0) (least_matched S R rs h 0 (first is_hit rs 0) (first_least is_hit rs 0)))

good_next : (R rs : List Row) (S : List Search) (n : ℕ) (a : Option ℕ) → Good (walking R S n) rs a → Good (walking R S (n + 1)) rs (address_after is_hit rs a)
good_next R rs S n None h = (h.0, lowest_none (matched S) R n h.1)
good_next R rs S n (Some a) h =
    (h.0, lowest_next (matched S) R n a (first is_hit rs (a + 1)) h.1 (least_matched S R rs h.0 (a + 1) (first is_hit rs (a + 1)) (first_least is_hit rs (a + 1))))

-- a search begins a group or goes on with it
good_search : (q : Search) (rs : List Row) (p : Place) (a : Option ℕ) → Good p rs a
    → Good (led (searches q) rs p) (map (searched q) rs) (first is_hit (map (searched q) rs) 0)
good_search q rs p a h = at q.head refl p h
  where
    at : (b : Bool) → q.head ≡ b → (p : Place) → Good p rs a → Good (cond b (walking rs (q ∷ []) 1) (joined q p)) (map (searched q) rs) (first is_hit (map (searched q) rs) 0)
    at true e p k = good_first rs (map (searched q) rs) (q ∷ []) (stands_head q e rs)
    at false e outside k = tt
    at false e (walking R S n) k = good_first R (map (searched q) rs) (S ++ q ∷ []) (stands_next S q e R rs k.0)

good_unvisited : (p : Place) (rs : List Row) (a : Option ℕ) → Good p rs a → Good p (map unvisited rs) a
good_unvisited outside rs a h = tt
good_unvisited (walking R S n) rs a h = (stands_unvisited S R rs h.0, h.1)

good_rewind : (p : Place) (rs : List Row) (a : Option ℕ) → Good p rs a → Good (led rewinds rs p) rs (first is_hit rs 0)
good_rewind outside rs a h = tt
good_rewind (walking R S n) rs a h = good_first R rs S h.0

good_move : (p : Place) (rs : List Row) (a : Option ℕ) → Good p rs a → Good (led moves rs p) rs (address_after is_hit rs a)
good_move outside rs a h = tt
good_move (walking R S n) rs a h = good_next R rs S n a h

good_event : (e : Event) (p : Place) (rs rs' : List Row) (g g' : Registers) → Does e rs g rs' g' → Good p rs (address g) → Good (led e rs p) rs' (address g')
good_event (searches q) p rs rs' g g' d h = rw (d.1, d.0) (good_search q rs p (address g) h)
good_event rewinds p rs rs' g g' d h = rw (d.1, d.0) (good_rewind p rs (address g) h)
good_event moves p rs rs' g g' d h = rw (d.1, d.0) (good_move p rs (address g) h)
good_event changes p rs rs' g g' d h = tt
good_event neither p rs rs' g g' d h = rw d.1 (at d.0)
  where
    at : (rs' ≡ rs) ⊎ (rs' ≡ map unvisited rs) → Good p rs' (address g)
    at (inl e) = rw e h
    at (inr e) = rw e (good_unvisited p rs (address g) h)

named : (p : Place) (rs : List Row) (a : Option ℕ) → Good p rs a → Named p a
named outside rs a h = tt
named (walking R S n) rs a h = h.1

good_life : (p : Place) (s : State) (calls : List Call) → Good p s.rows (address s.registers)
    → Named (place_after p s calls) (address (lived s calls).registers)
unfolding place_after lived
good_life p s [] h = named p s.rows (address s.registers) h
good_life p s (c ∷ cs) h =
    good_life (led (event_of s c) s.rows p) (after s c) cs
    (good_event (event_of s c) p s.rows (after s c).rows s.registers (after s c).registers (effect s c) h)

pub walks_complete : (s : State) (calls : List Call) → WalksComplete s calls
walks_complete s calls k le = good_life outside s (take k calls) tt
