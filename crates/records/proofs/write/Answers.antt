use Rattle.std.proofs.Common.{sym, arith, inr}
use Rattle.records.proofs.RoundTrip.{refused, written_part}
use Rattle.records.proofs.write.Goals as goal

-- nothing goes in past the end
pub returns-then-bytes-at : goal.returns-then-bytes-at
returns-then-bytes-at g c =
    let a = c.args in
    sym (refused (g.R.Record.fits a.value) a.bytes.now a.at (g.R.Record.bytes a.value) (inr (omega arith)))

pub returns : goal.returns
returns g c =
    let a = c.args in
    written_part (g.R.Record.fits a.value) a.bytes.now a.at (g.R.Record.bytes a.value) c.put.result c.put.new.s (omega arith) c.put.ensures
