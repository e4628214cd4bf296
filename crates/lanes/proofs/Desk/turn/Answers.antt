-- `Desk::turn` meets its contract: its two returns are `turn_ended` and `turn_got` of `Turns`. Assumes nothing.
use Prim.Native.Nat.{◌+◌}
use native.Mathlib.Omega.{arith}
use Rattle.lanes.specs.Desk.{turned_in}
use Rattle.lanes.proofs.Turns.{turn_ended, turn_got}
use Rattle.lanes.proofs.Desk.turn.Goals as goal

pub returns-then-got-eq0 : goal.returns-then-got-eq0
returns-then-got-eq0 c =
    let s = c.args in
    turn_ended s.self s.cells.now s.bytes.now s.got s.answers.now c.min-left.result (omega arith)
    c.finish.result c.finish.new.answers c.if-got-eq0.true c.finish.ensures.0 c.finish.ensures.1

pub returns : goal.returns
returns c =
    let s = c.args in
    turn_got s.self s.cells.now s.bytes.now s.got s.answers.now c.min-left.result (omega arith)
    (c.min-left.result + c.min.result)
    (turned_in c.turn_on.result c.turn_on.new.cells c.turn_on.new.bytes c.turn_on.new.answers)
    c.if-got-eq0.false (omega arith) c.turn_on.ensures
