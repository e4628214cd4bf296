-- `Board::rollback` meets its contract.
-- Assumes nothing.
use Rattle.std.specs.Prelude.{Ok}
use mathlib.Core.Path.{ap}
use Rattle.records.specs.declared.Call.{Call}
use Rattle.steps.specs.Store.{Store, lent, answered}
use Rattle.steps.proofs.Checks.{passed, refused, handed}
use Rattle.steps.proofs.Board.rollback.Goals as goal

pub returns-in-Err : goal.returns-in-Err
returns-in-Err c =
    let a = c.args in
    refused (lent a.self a.cells.now) (Call.Rollback a.place)
    c.admit.ensures c.in-Err.is c.with.ensures

pub returns-in-Ok : goal.returns-in-Ok
returns-in-Ok c =
    let a = c.args in
    let go = passed (lent a.self a.cells.now) (Call.Rollback a.place) c.admit.ensures c.in-Ok.is in
    go.is (handed c.with-in-Ok.ensures (ap (λ (st : Store). answered (Ok 0) st) c.closed.ensures))
