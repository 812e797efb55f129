-- The hit flag of rows, from the first hits that a table names. Assumes nothing.
use Rattle.std.proofs.Common.{◌≡◌, ℕ, suc, ◌+◌, ◌<◌, true, false, List, ◌∷◌, Some, None, Option, refl, ap, ◌∙◌, add-one, arith}
use Rattle.flags.proofs.Found.{flag_found, found_passes, lasting_before}
use Rattle.flags.specs.Kinds.{hit_then, hits_from}
use Rattle.flags.specs.Laws.{Lasting, Reaches, between}
use Rattle.flags.specs.Proved.{hits_laws}
use Rattle.flags.specs.declared.hit.HitFlag.{HitFlag}
use Rattle.flags.specs.declared.hit.HitFlag.TheVariants.{None as NoHit, One, Several}
use Rattle.table.specs.Calls.{first, row_at}
use Rattle.table.specs.Row.{Row, is_hit}

hits_skip : (row : Row) (rs : List Row) (n : ℕ) → is_hit row ≡ false → hits_from (row ∷ rs) n ≡ hits_from rs (suc n)
unfolding hits_from
hits_skip row rs n e = rw e

hits_here : (row : Row) (rs : List Row) (n : ℕ) → is_hit row ≡ true → hits_from (row ∷ rs) n ≡ hit_then n (hits_from rs (n + 1))
unfolding hits_from
hits_here row rs n e = rw (e, add-one)

two_hits : (a b : ℕ) (x : HitFlag) → hit_then a (hit_then b x) ≡ Several a
two_hits a b NoHit = refl
two_hits a b (One c) = refl
two_hits a b (Several c) = refl

hits_first : (rs : List Row) (a b row : ℕ) → Some row ≡ first is_hit rs a → row < b
    → hits_from (between a b rs) a ≡ hit_then row (hits_from (between (row + 1) b rs) (row + 1))
hits_first rs a b row e lt =
    flag_found hits_laws is_hit hits_skip rs a b row e lt
    ∙ hits_here (row_at rs row) (between (row + 1) b rs) row (found_passes hits_laws is_hit hits_skip rs a row e)

module _ (rs : List Row) (a b : ℕ) where
  pub no_hit : (r : Option ℕ) → r ≡ first is_hit rs a → Reaches r b → Lasting hits_from rs a b (record { flag = NoHit; until = r })
  no_hit = lasting_before hits_laws is_hit hits_skip rs a b

  module _ (row : ℕ) (found : Some row ≡ first is_hit rs a) (within : row < b) where
    pub one_hit : (r : Option ℕ) → r ≡ first is_hit rs (row + 1) → Reaches r b → Lasting hits_from rs a b (record { flag = One row; until = r })
    one_hit r e end =
        let later = lasting_before hits_laws is_hit hits_skip rs (row + 1) b r e end in
        record { reached = end; same = λ k above below. hits_first rs a k row found (omega arith) ∙ ap (hit_then row) (later.same k above below) }

    pub several_hits : (next : ℕ) → Some next ≡ first is_hit rs (row + 1) → next < b → Lasting hits_from rs a b (record { flag = Several row; until = None })
    several_hits next e lt = record {
      reached = tt;
      same = λ k above below.
          hits_first rs a k row found (omega arith) ∙ ap (hit_then row) (hits_first rs (row + 1) k next e (omega arith))
          ∙ two_hits row next (hits_from (between (next + 1) k rs) (next + 1));
    }
