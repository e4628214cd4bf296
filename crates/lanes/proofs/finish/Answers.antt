-- `finish` meets its contract: nothing left is nothing written, and a cut record is RECORD. Assumes nothing.
use native.Mathlib.Omega.{arith}
use Rattle.lanes.proofs.Replies.{no_call_put}
use Rattle.lanes.proofs.Turns.{end_none, end_cut}
use Rattle.lanes.proofs.finish.Goals as goal

pub returns-then-left-eq0 : goal.returns-then-left-eq0
returns-then-left-eq0 c = end_none c.args.left c.args.answers.now c.if-left-eq0.true

pub returns : goal.returns
returns c =
    let answers = c.args.answers.now in
    end_cut c.args.left answers c.write.new.bytes c.if-left-eq0.false
    (no_call_put answers 0 (omega arith) c.write.result c.write.new.bytes c.write.ensures)
