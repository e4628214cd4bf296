-- `Board::start` meets its contract.
-- Assumes nothing.
use Rattle.std.specs.Prelude.{Ok}
use Prim.Native.Nat.{◌+◌}
use native.Mathlib.Omega.{arith}
use Rattle.records.specs.declared.Call.{Call}
use Rattle.steps.specs.Record.{with_place, with_counts}
use Rattle.steps.specs.Store.{lent, answered}
use Rattle.steps.proofs.Checks.{passed, refused, handed}
use Rattle.steps.proofs.Board.start.Goals as goal

pub overflow_add-next : goal.overflow_add-next
overflow_add-next c = omega (arith, (passed (lent c.args.self c.args.cells.now) (Call.Start c.args.place) c.admit.ensures c.in-Ok.is).starts)

pub returns-in-Err : goal.returns-in-Err
returns-in-Err c =
    let a = c.args in
    refused (lent a.self a.cells.now) (Call.Start a.place)
    c.admit.ensures c.in-Err.is c.with.ensures

pub returns-in-Ok : goal.returns-in-Ok
returns-in-Ok c =
    let a = c.args in
    let go = passed (lent a.self a.cells.now) (Call.Start a.place) c.admit.ensures c.in-Ok.is in
    let n = a.self.starts + 1 in
    let at = c.seat.view_is in
    let place = c.opened.ensures in
    go.is (handed c.with-in-Ok.ensures
    (λ j. answered (Ok n) (lent (with_counts (with_place a.self (at j) (place j)) n a.self.commits) a.cells.now)))
