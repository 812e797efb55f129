-- Cuts of a table into members, and the flag that each member hands on. Assumes nothing.
--   end_of         where member i of a cut ends: before the next start, or at the depth
--   obeys          whether the start of member i keeps the rule of a cut
--   first_break    the first of the n starts from number i on that breaks the rule, or none
--   checked_cut    what the flags call answers: the length of its output is checked before the cut
--   flag_up_to     the flag of all rows from 0 up to the end of member i
--   flags_so_far   that flag, for each member
--   own_flag       the flag of the rows of member i alone
--   running_flag   the running flag before it, at first nothing, joined with the member's own
use Rattle.std.specs.Prelude.{◌≡◌, ℕ, zero, suc, ◌+◌, ◌-◌, ◌<◌, ◌≤◌, Bool, cond, ◌&&◌, List, map, length, get_or, take, Some, None, Ok, Err, Option, Result, ◌==◌, nat_le, slice_index, slice_index_or}
use Rattle.flags.specs.declared.faults.FlagsFault.{FlagsFault}
use Rattle.flags.specs.declared.faults.FlagsFault.TheVariants.{Length, Starts, Start}
use Rattle.flags.specs.Laws.{between}
use Rattle.std.specs.List.{range_with_len}
use Rattle.table.specs.Row.{Row}

abbrev pub end_of : List ℕ → ℕ → ℕ → ℕ
end_of cut depth i = slice_index_or cut (i + 1) depth

-- the first start is 0, none is less than the one before, none is above the depth
abbrev pub obeys : List ℕ → ℕ → ℕ → Bool
obeys cut depth i = cond (i == 0) (slice_index cut i == 0) (nat_le (slice_index cut (i - 1)) (slice_index cut i) && nat_le (slice_index cut i) depth)

unfoldable pub first_break : (ℕ → Bool) → ℕ → ℕ → Option ℕ
first_break ok i zero = None
first_break ok i (suc n) = cond (ok i) (first_break ok (suc i) n) (Some i)

abbrev pub refused_at : Option ℕ → Result Unit FlagsFault
refused_at None = Ok tt
refused_at (Some i) = Err (Start i)

-- the cut has 1 to 32 starts
abbrev pub checked_starts : List ℕ → ℕ → Result Unit FlagsFault
checked_starts cut depth =
    cond (nat_le 1 (length cut) && nat_le (length cut) 32) (refused_at (first_break (obeys cut depth) 0 (length cut))) (Err (Starts (length cut)))

abbrev pub checked_cut : ℕ → List ℕ → ℕ → Result Unit FlagsFault
checked_cut n cut depth = cond (n == length cut) (checked_starts cut depth) (Err (Length n (length cut)))

abbrev pub flag_up_to : {K : Type 0} → (List Row → ℕ → K) → List Row → List ℕ → ℕ → K
flag_up_to flag rs cut i = flag (take (end_of cut (length rs) i) rs) 0

unfoldable pub flags_so_far : {K : Type 0} → (List Row → ℕ → K) → List Row → List ℕ → List K
flags_so_far flag rs cut = map (flag_up_to flag rs cut) (range_with_len 0 (length cut))

abbrev pub own_flag : {K : Type 0} → (List Row → ℕ → K) → List Row → List ℕ → ℕ → K
own_flag flag rs cut i = flag (between (slice_index_or cut i (length rs)) (end_of cut (length rs) i) rs) (slice_index_or cut i (length rs))

abbrev pub running_flag : {K : Type 0} → (List Row → ℕ → K) → (K → K → K) → K → List Row → List ℕ → ℕ → K
running_flag flag join none rs cut zero = join none (own_flag flag rs cut zero)
running_flag flag join none rs cut (suc i) = join (running_flag flag join none rs cut i) (own_flag flag rs cut (suc i))

-- the flag of all rows so far is the running flag
abbrev pub Running : {K : Type 0} → (List Row → ℕ → K) → (K → K → K) → K → List Row → List ℕ → Type 0
Running flag join none rs cut = (i : ℕ) → i < length cut → flag_up_to flag rs cut i ≡ running_flag flag join none rs cut i

-- a cut that passed the check: its members follow one another from row 0 to the depth
pub record Cut (cut : List ℕ) (depth : ℕ) : Type 0 where
  pub some : 1 ≤ length cut
  pub first : get_or cut 0 depth ≡ 0
  pub rising : (i : ℕ) → i < length cut → slice_index_or cut i depth ≤ end_of cut depth i
  pub within : (i : ℕ) → i < length cut → end_of cut depth i ≤ depth
