-- The rows of a join after a call that changes every row. v and x are the widths of the upper and the
-- lower table. Assumes nothing.
use Rattle.std.proofs.Common.{◌≡◌, ℕ, ◌<◌, min, List, map, Ok, Err, Result, sym, ◌∙◌, arith}
use Rattle.std.proofs.lemmas.Bool.Decides.{nat_tests}
use Rattle.table.proofs.Checks.{segment_granted}
use Rattle.table.specs.Calls.{granted, on_segment}
use Rattle.table.specs.Row.{Row}
use Rattle.table.specs.declared.faults.TableFault.{TableFault}
use Rattle.join.proofs.Cuts.{Even}
use Rattle.join.proofs.Parts.{join_map}
use Rattle.join.specs.Joined.{join_rows}

-- a segment that is there is not refused
pub segment_stands : {X : Type 0} (w s : ℕ) (y : X) (e : TableFault) → s < w → Err e ≡ on_segment w s y → ⊥
segment_stands w s y e lt h = let k = segment_granted w s y lt in let z : ◌≡◌ {A = ℕ} 0 1 = cc in omega arith

module _ (n v x : ℕ) (us ls : List Row) (v' x' : ℕ) (us' ls' : List Row) where
  pub changed_all : (g : Row → Row) → Even (min v x) g → v' ≡ v → x' ≡ x → us' ≡ map g us → ls' ≡ map g ls
      → join_rows n (min v' x') us' ls' ≡ map g (join_rows n (min v x) us ls)
  changed_all g even a b c d = rw (a, b, c, d) (join_map n (min v x) us ls g even)

  pub searched_all : {X : Type 0} (g : Row → Row) (s : ℕ) (y : X) (r : Result X TableFault) → Even (min v x) g → s < x → r ≡ on_segment x s y → v' ≡ v → x' ≡ x
      → us' ≡ map g us → ls' ≡ granted r (map g ls) ls → join_rows n (min v' x') us' ls' ≡ granted r (map g (join_rows n (min v x) us ls)) (join_rows n (min v x) us ls)
  searched_all g s y (Ok z) even lt e a b c d = changed_all g even a b c d
  searched_all g s y (Err z) even lt e a b c d = absurd (segment_stands x s y z lt e)

-- the lower table grants the segment, and so does the join
pub search_granted : {X : Type 0} (v x s : ℕ) (y : X) → s < min v x → on_segment x s y ≡ on_segment (min v x) s y
search_granted v x s y lt = sym (segment_granted x s y (omega arith)) ∙ segment_granted (min v x) s y lt

-- what the upper table refuses, the join refuses
pub search_refused : {X : Type 0} (v x s : ℕ) (y : X) (e : TableFault) → Err e ≡ on_segment v s y → Err e ≡ on_segment (min v x) s y
unfolding on_segment
search_refused v x s y e h = grind (arith, nat_tests)
