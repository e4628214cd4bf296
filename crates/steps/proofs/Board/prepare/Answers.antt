-- `Board::prepare` meets its contract.
-- Assumes nothing.
use Rattle.std.specs.Prelude.{Ok}
use mathlib.Core.Path.{◌∙◌}
use Rattle.records.specs.declared.Call.{Call}
use Rattle.steps.specs.declared.State.{State}
use Rattle.steps.specs.Record.{with_place, place_at, in_state}
use Rattle.steps.specs.Store.{lent, answered}
use Rattle.steps.proofs.Checks.{passed, refused, handed}
use Rattle.steps.proofs.Board.prepare.Goals as goal

pub returns-in-Err : goal.returns-in-Err
returns-in-Err c =
    let a = c.args in
    refused (lent a.self a.cells.now) (Call.Prepare a.place)
    c.admit.ensures c.in-Err.is c.with.ensures

pub returns-in-Ok : goal.returns-in-Ok
returns-in-Ok c =
    let a = c.args in
    let go = passed (lent a.self a.cells.now) (Call.Prepare a.place) c.admit.ensures c.in-Ok.is in
    let at = c.seat.view_is in
    let place = c.in_state.ensures ∙ (λ j. in_state State.Prepared (place_at a.self (at j))) in
    go.is (handed c.with-in-Ok.ensures
    (λ j. answered (Ok 0) (lent (with_place a.self (at j) (place j)) a.cells.now)))
