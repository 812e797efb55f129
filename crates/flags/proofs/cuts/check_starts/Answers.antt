use Rattle.std.proofs.Common.{◌≡◌, true, false, length, ap, arith, rules}
use Rattle.std.proofs.lemmas.Iterator.{first_from_Range}
use Rattle.flags.proofs.Checks.{break_at, break_none, cut_passed}
use Rattle.flags.specs.Cuts.{obeys, refused_at}
use Rattle.flags.proofs.cuts.check_starts.Goals as goal

pub returns-in-Some : goal.returns-in-Some
returns-in-Some c =
    let ok = obeys c.args.cut.now c.args.depth in
    let told = first_from_Range _ _ _ c.find.result (λ k. ok k ≡ false) (λ k. ok k ≡ true) c.find.ensures.ran (λ x q k. search rules) (λ x q k. search rules) in
    let found = rw c.in-Some.is at told in
    record { answer = ap refused_at (break_at ok 0 (length c.args.cut.now) c.in-Some.member (omega arith) (omega (arith, found.1)) found.3 found.2); cut = tt }

pub returns-in-None : goal.returns-in-None
returns-in-None c =
    let ok = obeys c.args.cut.now c.args.depth in
    let told = first_from_Range _ _ _ c.find.result (λ k. ok k ≡ false) (λ k. ok k ≡ true) c.find.ensures.ran (λ x q k. search rules) (λ x q k. search rules) in
    let kept = rw c.in-None.is at told in
    record {
      answer = ap refused_at (break_none ok 0 (length c.args.cut.now) (λ k from lt. kept k from (omega arith)));
      cut = cut_passed c.args.cut.now c.args.depth (λ k lt. kept k (omega arith) lt);
    }
