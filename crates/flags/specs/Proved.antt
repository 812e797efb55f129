-- Proofs that the two kinds of flag owe; nothing here has to be believed.
use Rattle.std.specs.Prelude.{◌≡◌, ℕ, suc, ◌+◌, Bool, true, false, cond, List, [], ◌∷◌, ◌++◌, length, None, Some, Option, refl}
use Rattle.std.proofs.Common.{sym, ap, ◌∙◌, arith}
use Rattle.flags.specs.declared.full.FullFlag.{FullFlag}
use Rattle.flags.specs.declared.hit.HitFlag.{HitFlag}
use Rattle.flags.specs.declared.hit.HitFlag.TheVariants.{None as NoHit, One, Several}
use Rattle.flags.specs.Kinds.{empty_at, full, full_from, full_joined, hit_then, hits_from, hits_joined}
use Rattle.flags.specs.Laws.{Laws}
use Rattle.std.specs.Option.{option_or}
use Rattle.table.specs.Row.{Row, is_empty, is_hit}

hits_right : (x : HitFlag) → hits_joined x NoHit ≡ x
hits_right NoHit = refl
hits_right (One a) = refl
hits_right (Several a) = refl

hit_then-joined : (a : ℕ) (x y : HitFlag) → hits_joined (hit_then a x) y ≡ hit_then a (hits_joined x y)
hit_then-joined a NoHit y = refl
hit_then-joined a (One b) NoHit = refl
hit_then-joined a (One b) (One c) = refl
hit_then-joined a (One b) (Several c) = refl
hit_then-joined a (Several b) y = refl

hits_assoc : (x y z : HitFlag) → hits_joined (hits_joined x y) z ≡ hits_joined x (hits_joined y z)
hits_assoc NoHit y z = refl
hits_assoc (One a) y z = hit_then-joined a y z
hits_assoc (Several a) y z = refl

-- the rows behind a row are numbered on from the next
next_number : {K : Type 0} (flag : List Row → ℕ → K) (xs ys : List Row) (n : ℕ) → flag ys (suc n + length xs) ≡ flag ys (n + suc (length xs))
next_number flag xs ys n = let e : suc n + length xs ≡ n + suc (length xs) = omega arith in ap (flag ys) e

hits_head : (b : Bool) (n : ℕ) (x y z : HitFlag) → z ≡ hits_joined x y → cond b (hit_then n z) z ≡ hits_joined (cond b (hit_then n x) x) y
hits_head true n x y z e = ap (hit_then n) e ∙ sym (hit_then-joined n x y)
hits_head false n x y z e = e

hits_split : (xs ys : List Row) (n : ℕ) → hits_from (xs ++ ys) n ≡ hits_joined (hits_from xs n) (hits_from ys (n + length xs))
unfolding hits_from
hits_split [] ys n = let e : n ≡ n + 0 = omega arith in ap (hits_from ys) e
hits_split (row ∷ xs) ys n =
    hits_head (is_hit row) n (hits_from xs (suc n)) (hits_from ys (n + suc (length xs))) (hits_from (xs ++ ys) (suc n))
    (hits_split xs ys (suc n) ∙ ap (hits_joined (hits_from xs (suc n))) (next_number hits_from xs ys n))

hits_empty : (n : ℕ) → hits_from [] n ≡ NoHit
unfolding hits_from
hits_empty n = refl

pub hits_laws : Laws hits_from hits_joined NoHit
hits_laws = record { assoc = hits_assoc; left = λ x. refl; right = hits_right; empty = hits_empty; split = hits_split }

or_none : (x : Option ℕ) → option_or x None ≡ x
or_none None = refl
or_none (Some a) = refl

or_assoc : (x y z : Option ℕ) → option_or (option_or x y) z ≡ option_or x (option_or y z)
or_assoc None y z = refl
or_assoc (Some a) y z = refl

full_right : (x : FullFlag) → full_joined x full ≡ x
full_right x = ap (λ (r : Option ℕ). record { first_empty = r }) (or_none x.first_empty)

full_assoc : (x y z : FullFlag) → full_joined (full_joined x y) z ≡ full_joined x (full_joined y z)
full_assoc x y z = ap (λ (r : Option ℕ). record { first_empty = r }) (or_assoc x.first_empty y.first_empty z.first_empty)

full_head : (b : Bool) (n : ℕ) (x y z : FullFlag) → z ≡ full_joined x y → cond b (empty_at n) z ≡ full_joined (cond b (empty_at n) x) y
full_head true n x y z e = refl
full_head false n x y z e = e

full_split : (xs ys : List Row) (n : ℕ) → full_from (xs ++ ys) n ≡ full_joined (full_from xs n) (full_from ys (n + length xs))
unfolding full_from
full_split [] ys n = let e : n ≡ n + 0 = omega arith in ap (full_from ys) e
full_split (row ∷ xs) ys n =
    full_head (is_empty row) n (full_from xs (suc n)) (full_from ys (n + suc (length xs))) (full_from (xs ++ ys) (suc n))
    (full_split xs ys (suc n) ∙ ap (full_joined (full_from xs (suc n))) (next_number full_from xs ys n))

full_empty : (n : ℕ) → full_from [] n ≡ full
unfolding full_from
full_empty n = refl

pub full_laws : Laws full_from full_joined full
full_laws = record { assoc = full_assoc; left = λ x. refl; right = full_right; empty = full_empty; split = full_split }
