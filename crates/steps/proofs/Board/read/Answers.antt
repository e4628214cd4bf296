-- `Board::read` meets its contract.
-- Assumes nothing.
use mathlib.Core.Path.{ap}
use Rattle.records.specs.declared.Call.{Call}
use Rattle.steps.specs.Store.{lent, answered}
use Rattle.steps.proofs.Checks.{passed, refused, handed}
use Rattle.steps.proofs.Board.read.Goals as goal
use Rattle.records.specs.Answers.{Answer}

pub returns-in-Err : goal.returns-in-Err
returns-in-Err c =
    let a = c.args in
    refused (lent a.self a.cells.now) (Call.Read a.place a.key)
    c.admit.ensures c.in-Err.is c.with.ensures

pub returns-in-Ok : goal.returns-in-Ok
returns-in-Ok c =
    let a = c.args in
    let go = passed (lent a.self a.cells.now) (Call.Read a.place a.key) c.admit.ensures c.in-Ok.is in
    let st = lent a.self a.cells.now in
    go.is (handed c.with-in-Ok.ensures (ap (λ (x : Answer). answered x st) c.shown-shown.ensures))
