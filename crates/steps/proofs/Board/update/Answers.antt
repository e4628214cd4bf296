-- `Board::update` meets its contract.
-- Assumes nothing.
use Rattle.records.specs.declared.Call.{Call}
use Rattle.steps.specs.Store.{lent}
use Rattle.steps.proofs.Checks.{passed, refused}
use Rattle.steps.proofs.Board.update.Goals as goal

pub updated-requires : goal.updated-requires
updated-requires c =
    let a = c.args in
    let go = passed (lent a.self a.cells.now) (Call.Update a.place a.key a.value) c.admit.ensures c.in-Ok.is in
    go.keyed

pub returns-in-Err : goal.returns-in-Err
returns-in-Err c =
    let a = c.args in
    refused (lent a.self a.cells.now) (Call.Update a.place a.key a.value)
    c.admit.ensures c.in-Err.is c.with.ensures

pub returns-in-Ok : goal.returns-in-Ok
returns-in-Ok c =
    let a = c.args in
    let go = passed (lent a.self a.cells.now) (Call.Update a.place a.key a.value) c.admit.ensures c.in-Ok.is in
    go.is c.updated.ensures
