-- What a call that names a row, and perhaps a segment, answers on the join and on the table that
-- holds the row, and the rows after it. v and x are the widths of the upper and the lower table.
-- Assumes nothing.
--   InUpper r k   row r of the join is row k of the upper table
--   InLower r k   row r of the join is row k of the lower table
use Rattle.std.proofs.Common.{◌≡◌, ℕ, ◌-◌, ◌<◌, ◌≤◌, min, List, length, Ok, Err, Result, sym, ap, ◌∙◌, arith}
use Rattle.std.proofs.lemmas.Bool.Decides.{nat_tests}
use Rattle.table.proofs.Told.{cell-told, row_told}
use Rattle.table.specs.Calls.{change, granted, marks_at, on_cell, on_row, on_segment, row_at, word_at}
use Rattle.table.specs.Row.{Row}
use Rattle.join.proofs.Cuts.{Even, word_in_cut}
use Rattle.join.proofs.Parts.{change_lower, change_upper, length_join, row_at_lower, row_at_upper}
use Rattle.join.specs.Joined.{cut_row, join_rows, seat_of}
use Rattle.join.specs.declared.joins.Seat.{Seat}
use Rattle.join.specs.declared.joins.Seat.TheVariants.{Upper, Lower}

module _ (n v x : ℕ) (us ls : List Row) where
  abbrev js : List Row
  js = join_rows n (min v x) us ls

  pub record InUpper (r k : ℕ) : Type 0 where
    pub there : r < length js
    pub upper : r < length us
    pub seat : k ≡ r

  pub record InLower (r k : ℕ) : Type 0 where
    pub there : r < length js
    pub lower : length us ≤ r
    pub below : k < length ls
    pub seat : k ≡ r - length us

  in_upper : (r k : ℕ) (a : Seat) → r < length js → a ≡ seat_of (length us) r → a ≡ Upper k → InUpper r k
  in_upper r k a h e i = record { there = h; upper = grind (arith, nat_tests); seat = grind (arith, nat_tests) }

  in_lower : (r k : ℕ) (a : Seat) → r < length js → a ≡ seat_of (length us) r → a ≡ Lower k → InLower r k
  in_lower r k a h e i =
      let le : length us ≤ r = grind (arith, nat_tests) in
      let at : k ≡ r - length us = grind (arith, nat_tests) in
      let l = length_join n (min v x) us ls in
      record { there = h; lower = le; below = omega arith; seat = at }

  pub cell_upper : (r s k : ℕ) (a : Seat) → Ok a ≡ on_cell (min v x) js r s (seat_of (length us) r) → a ≡ Upper k → (s < min v x) × InUpper r k
  cell_upper r s k a e i = let t = cell-told (min v x) js r s (seat_of (length us) r) a e in (t.1, in_upper r k a t.0 t.2 i)

  pub cell_lower : (r s k : ℕ) (a : Seat) → Ok a ≡ on_cell (min v x) js r s (seat_of (length us) r) → a ≡ Lower k → (s < min v x) × InLower r k
  cell_lower r s k a e i = let t = cell-told (min v x) js r s (seat_of (length us) r) a e in (t.1, in_lower r k a t.0 t.2 i)

  pub row_upper : (r k : ℕ) (a : Seat) → Ok a ≡ on_row js r (seat_of (length us) r) → a ≡ Upper k → InUpper r k
  row_upper r k a e i = let t = row_told js r (seat_of (length us) r) a e in in_upper r k a t.0 t.1 i

  pub row_lower : (r k : ℕ) (a : Seat) → Ok a ≡ on_row js r (seat_of (length us) r) → a ≡ Lower k → InLower r k
  row_lower r k a e i = let t = row_told js r (seat_of (length us) r) a e in in_lower r k a t.0 t.1 i

  -- what the table that holds the row answers, the join answers
  pub write_upper : {X : Type 0} (r s k : ℕ) (y : X) → (s < min v x) × InUpper r k → on_cell v us k s y ≡ on_cell (min v x) js r s y
  unfolding on_cell on_segment
  write_upper r s k y (lt, at) = grind (arith, nat_tests)

  pub write_lower : {X : Type 0} (r s k : ℕ) (y : X) → (s < min v x) × InLower r k → on_cell x ls k s y ≡ on_cell (min v x) js r s y
  unfolding on_cell on_segment
  write_lower r s k y (lt, at) = grind (arith, nat_tests)

  pub set_marks_upper : {X : Type 0} (r k : ℕ) (y : X) → InUpper r k → on_row us k y ≡ on_row js r y
  unfolding on_row
  set_marks_upper r k y at = grind (arith, nat_tests)

  pub set_marks_lower : {X : Type 0} (r k : ℕ) (y : X) → InLower r k → on_row ls k y ≡ on_row js r y
  unfolding on_row
  set_marks_lower r k y at = grind (arith, nat_tests)

  -- a row of the table, cut, is the join's row
  row_held_upper : (r k : ℕ) → InUpper r k → row_at js r ≡ cut_row (min v x) (row_at us k)
  row_held_upper r k at = rw at.seat (row_at_upper n (min v x) us ls r at.there at.upper)

  row_held_lower : (r k : ℕ) → InLower r k → row_at js r ≡ cut_row (min v x) (row_at ls k)
  row_held_lower r k at = rw at.seat (row_at_lower n (min v x) us ls r at.there at.lower)

  pub read_upper : (r s k : ℕ) → (s < min v x) × InUpper r k → on_cell v us k s (word_at us k s) ≡ on_cell (min v x) js r s (word_at js r s)
  read_upper r s k (lt, at) = write_upper r s k (word_at us k s) (lt, at) ∙ ap (on_cell (min v x) js r s) (sym (rw (row_held_upper r k at) (word_in_cut (min v x) (row_at us k) s lt)))

  pub read_lower : (r s k : ℕ) → (s < min v x) × InLower r k → on_cell x ls k s (word_at ls k s) ≡ on_cell (min v x) js r s (word_at js r s)
  read_lower r s k (lt, at) = write_lower r s k (word_at ls k s) (lt, at) ∙ ap (on_cell (min v x) js r s) (sym (rw (row_held_lower r k at) (word_in_cut (min v x) (row_at ls k) s lt)))

  pub marks_upper : (r k : ℕ) → InUpper r k → on_row us k (marks_at us k) ≡ on_row js r (marks_at js r)
  marks_upper r k at = set_marks_upper r k (marks_at us k) at ∙ ap (on_row js r) (sym (ap (λ row. row.marks) (row_held_upper r k at)))

  pub marks_lower : (r k : ℕ) → InLower r k → on_row ls k (marks_at ls k) ≡ on_row js r (marks_at js r)
  marks_lower r k at = set_marks_lower r k (marks_at ls k) at ∙ ap (on_row js r) (sym (ap (λ row. row.marks) (row_held_lower r k at)))

  -- the rows after a call that changes one of them
  pub changed_upper : {Y F : Type 0} (a : Result Y F) (v' : ℕ) (new : List Row) (g : Row → Row) (r k : ℕ) → Even (min v x) g → InUpper r k
      → v' ≡ v → new ≡ granted a (change k g us) us → join_rows n (min v' x) new ls ≡ granted a (change r g js) js
  changed_upper (Ok y) v' new g r k even at w e = rw (w, e, at.seat) (change_upper n (min v x) us ls g even r at.there at.upper)
  changed_upper (Err y) v' new g r k even at w e = rw (w, e)

  pub changed_lower : {Y F : Type 0} (a : Result Y F) (x' : ℕ) (new : List Row) (g : Row → Row) (r k : ℕ) → Even (min v x) g → InLower r k
      → x' ≡ x → new ≡ granted a (change k g ls) ls → join_rows n (min v x') us new ≡ granted a (change r g js) js
  changed_lower (Ok y) x' new g r k even at w e = rw (w, e, at.seat) (change_lower n (min v x) us ls g even r at.there at.lower)
  changed_lower (Err y) x' new g r k even at w e = rw (w, e)
