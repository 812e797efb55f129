use Rattle.device.specs.Proved.Marks.{byte_searched_lem}
use Rattle.table.specs.Row.{agrees}
use Rattle.device.proofs.sweeps.compared.Goals as goal

pub returns : goal.returns
returns c =
    let q = c.args.query in
    record {
      answer = rw (c.flag-3.ensures.answer, c.flag-2.ensures.answer, c.flag.ensures.answer) (byte_searched_lem c.args.byte q.head (agrees q c.args.word) q.access c.requires);
    }
