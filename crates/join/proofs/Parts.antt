-- How the rows of a join stand to those of its two tables, as each call changes them. Assumes nothing.
use Rattle.std.proofs.Common.{◌≡◌, ℕ, ◌+◌, ◌-◌, ◌<◌, ◌≤◌, min, List, [], ◌∷◌, ◌++◌, map, length, take, refl, ap, ◌∙◌, arith}
use Rattle.std.proofs.lemmas.List.{get_or_append_left, get_or-append_right, get_or-map, get_or-take, length-append, length-map, length-take, map-append, take-map}
use Rattle.table.proofs.Splits.{change-append_left, change-append_right, change-map, change-take}
use Rattle.table.specs.Calls.{change, row_at}
use Rattle.table.specs.Row.{Row, blank}
use Rattle.join.proofs.Cuts.{Even}
use Rattle.join.specs.Joined.{cut_row, join_rows}

-- two functions of a row may go in either order
map_swap : (f g : Row → Row) → ((row : Row) → f (g row) ≡ g (f row)) → (rs : List Row) → map g (map f rs) ≡ map f (map g rs)
map_swap f g e [] = refl
map_swap f g e (row ∷ rs) = rw (e row, map_swap f g e rs)

module _ (n w : ℕ) (us ls : List Row) where
  pub length_join : length (join_rows n w us ls) ≡ min n (length us + length ls)
  unfolding join_rows
  length_join = simp (length-take, length-map, length-append)

  -- a row of the join is the row of the two lists put together, cut
  row_at_join : (r : ℕ) → r < length (join_rows n w us ls) → row_at (join_rows n w us ls) r ≡ cut_row w (row_at (us ++ ls) r)
  unfolding join_rows
  row_at_join r h =
      let e = length_join in
      let a = length-append us ls in
      get_or-take n (map (cut_row w) (us ++ ls)) r blank (omega arith) ∙ get_or-map (cut_row w) (us ++ ls) r blank blank (omega arith)

  pub row_at_upper : (r : ℕ) → r < length (join_rows n w us ls) → r < length us → row_at (join_rows n w us ls) r ≡ cut_row w (row_at us r)
  row_at_upper r h k = row_at_join r h ∙ ap (cut_row w) (get_or_append_left us ls blank r k)

  pub row_at_lower : (r : ℕ) → r < length (join_rows n w us ls) → length us ≤ r → row_at (join_rows n w us ls) r ≡ cut_row w (row_at ls (r - length us))
  row_at_lower r h k = row_at_join r h ∙ ap (cut_row w) (get_or-append_right us ls (length us) r blank refl k)

  pub join_map : (g : Row → Row) → Even w g → join_rows n w (map g us) (map g ls) ≡ map g (join_rows n w us ls)
  unfolding join_rows
  join_map g even = rw (← map-append g us ls, map_swap g (cut_row w) even (us ++ ls)) (take-map g n (map (cut_row w) (us ++ ls)))

  -- the same change in the two lists put together
  join_change : (g : Row → Row) → Even w g → (r : ℕ) → r < length (join_rows n w us ls) → take n (map (cut_row w) (change r g (us ++ ls))) ≡ change r g (join_rows n w us ls)
  unfolding join_rows
  join_change g even r h =
      let e = length_join in
      let a = length-append us ls in
      rw (change-take g n (map (cut_row w) (us ++ ls)) r (omega arith), change-map g (cut_row w) even (us ++ ls) r (omega arith))

  pub change_upper : (g : Row → Row) → Even w g → (r : ℕ) → r < length (join_rows n w us ls) → r < length us → join_rows n w (change r g us) ls ≡ change r g (join_rows n w us ls)
  unfolding join_rows
  change_upper g even r h k = rw (← change-append_left g us ls r k) (join_change g even r h)

  pub change_lower : (g : Row → Row) → Even w g → (r : ℕ) → r < length (join_rows n w us ls) → length us ≤ r → join_rows n w us (change (r - length us) g ls) ≡ change r g (join_rows n w us ls)
  unfolding join_rows
  change_lower g even r h k = rw (← change-append_right g us ls r k) (join_change g even r h)
