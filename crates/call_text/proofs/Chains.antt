-- A chain of tests, past the tests that fail. Assumes nothing.
use Rattle.std.proofs.Common.{◌≡◌, Bool, false, cond, sym, ◌∙◌}
use Rattle.std.proofs.lemmas.Bool.{cond-false}

pub passed : {X : Type 0} (b : Bool) (x y r : X) → false ≡ b → r ≡ y → r ≡ cond b x y
passed b x y r e h = h ∙ sym (cond-false b x y (sym e))
