-- What work comes to depends on how much memory there is, not on which. Assumes nothing.
use Rattle.std.proofs.Common.{◌≡◌, ℕ, ◌≤◌, Bool, true, false, nat_eq, List, subst, arith}
use Rattle.std.proofs.lemmas.Bool.Decides.{nat_tests as tells}
use Rattle.cascade.specs.Cascades.{PlacesTold, countable}
use Rattle.cascade.specs.declared.plans.Seat.{Seat}
use Rattle.table.specs.Row.{Row}

pub places_told : {Out : Type 0} (tells : ℕ → ℕ → List Row → List Row → Out → Type 0) (width : List Seat → ℕ → ℕ → ℕ) (rows : List Seat → ℕ → ℕ → List Row)
    (seats : List Seat) (places k n m : ℕ) (r : Out) → n ≡ k → m ≡ k → PlacesTold tells width rows seats places n m r → PlacesTold tells width rows seats places k k r
places_told tells width rows seats places k n m r p q h =
    subst (λ (y : ℕ). PlacesTold tells width rows seats places k y r) q (subst (λ (x : ℕ). PlacesTold tells width rows seats places x m r) p h)

pub countable-within : (n : ℕ) (empty : Bool) → empty ≡ nat_eq n 0 → empty ≡ false → n ≤ 32 → countable n ≡ true
countable-within n empty e some within = grind (arith, tells)
