use Rattle.std.proofs.Common.{◌≡◌, ◌*◌, ◌≤◌, true, false, length, is_err, refl, ◌∙◌, rules}
use Rattle.device.proofs.NewRows.{rows_new, rows_none}
use Rattle.device.specs.Opening.{checked, depth_at}
use Rattle.table.proofs.Granted.{granted_new, granted_old}
use Rattle.device.proofs.device.Device.open.Goals as goal

pub returns-then-is_err : goal.returns-then-is_err
returns-then-is_err c =
    let w = c.args.width in
    let n = length c.args.words.now in
    let m = length c.args.marks.now in
    let failed : is_err (checked w n m) ≡ true = search rules in
    record {
      memory = record {
        lent_words = refl;
        lent_marks = refl;
        width = granted_old (checked w n m) _ _ failed;
        depth = granted_old (checked w n m) _ _ failed;
        words = granted_old (checked w n m) _ _ failed;
        marks = granted_old (checked w n m) _ _ failed;
        rows = rows_none _ _ _ ∙ granted_old (checked w n m) _ _ failed;
      };
    }

pub returns : goal.returns
returns c =
    let w = c.args.width in
    let n = length c.args.words.now in
    let m = length c.args.marks.now in
    let passed : is_err (checked w n m) ≡ false = search rules in
    let words = c.fill.ensures.after (λ y e. e) in
    let marks = c.fill-2.ensures.after (λ y e. e) in
    let worded : depth_at w * w ≤ n = search rules in
    let marked : depth_at w ≤ m = search rules in
    record {
      memory = record {
        lent_words = refl;
        lent_marks = refl;
        width = granted_new (checked w n m) _ _ passed;
        depth = granted_new (checked w n m) _ _ passed;
        words = words ∙ granted_new (checked w n m) _ _ passed;
        marks = marks ∙ granted_new (checked w n m) _ _ passed;
        rows = rw (words, marks) (rows_new n m w (depth_at w) worded marked ∙ granted_new (checked w n m) _ _ passed);
      };
    }
