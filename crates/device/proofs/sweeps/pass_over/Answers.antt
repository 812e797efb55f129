use Rattle.std.proofs.Common.{◌≡◌, ◌<◌, ◌≢◌, length, get_or, sym, ap, ◌∙◌, arith, get_or-set_other, get_or-set_same, below_more}
use Rattle.device.specs.Layout.{marks_of}
use Rattle.device.proofs.sweeps.pass_over.Goals as goal

pub loop-byte-preserved : goal.loop-byte-preserved
loop-byte-preserved g c =
    let i = c.loop-byte.byte-index in
    let old : marks_of (get_or c.args.marks.now i 0) ≡ c.unpack.result = sym (c.unpack.ensures.answer ∙ ap marks_of (c.loop-byte.invariant.left i (omega arith))) in
    record {
      done = below_more _ _
          (λ k h. let t = c.loop-byte.invariant.done k h in let ne : k ≢ i = omega arith in (t.0, t.1, rw get_or-set_other t.2))
          (let lt : i < length c.loop-byte.marks = omega arith in (c.change.result, rw old c.change.ensures, rw get_or-set_same c.pack.ensures.answer));
      left = λ k h. let ne : k ≢ i = omega arith in rw get_or-set_other (c.loop-byte.invariant.left k (omega arith));
    }

pub returns : goal.returns
returns g c = record { memory = λ i h. c.loop-byte.invariant.done i (omega arith) }
