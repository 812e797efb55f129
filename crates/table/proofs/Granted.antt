-- What is there after a call that was granted, by the test of its answer. Assumes nothing.
use Rattle.std.proofs.Common.{◌≡◌, true, false, is_err, Ok, Err, Result, sym, refl}
use Rattle.std.proofs.lemmas.Bool.{true≢false}
use Rattle.table.specs.Calls.{granted}

module _ {X Y F : Type 0} where
  pub granted_new : (r : Result Y F) (new old : X) → is_err r ≡ false → new ≡ granted r new old
  granted_new (Ok y) new old e = refl
  granted_new (Err f) new old e = absurd (true≢false e)

  pub granted_old : (r : Result Y F) (new old : X) → is_err r ≡ true → old ≡ granted r new old
  granted_old (Ok y) new old e = absurd (true≢false (sym e))
  granted_old (Err f) new old e = refl
