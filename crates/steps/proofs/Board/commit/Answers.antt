-- `Board::commit` meets its contract.
-- Assumes nothing.
use Rattle.std.specs.Prelude.{Ok}
use Prim.Native.Nat.{◌+◌}
use native.Mathlib.Omega.{arith}
use mathlib.Core.Path.{◌∙◌}
use mathlib.Core.List.{map}
use Rattle.records.specs.declared.Call.{Call}
use Rattle.cells.specs.Cells.{cells_of, with_cells}
use Rattle.cells.specs.Rules.{stamped}
use Rattle.steps.specs.Record.{with_place, with_counts}
use Rattle.steps.specs.Store.{lent, answered}
use Rattle.steps.specs.Step.{number_at}
use Rattle.steps.proofs.Checks.{passed, refused, handed}
use Rattle.steps.proofs.Board.commit.Goals as goal

pub overflow_add-commit : goal.overflow_add-commit
overflow_add-commit c = omega (arith, (passed (lent c.args.self c.args.cells.now) (Call.Commit c.args.place) c.admit.ensures c.in-Ok.is).commits)

pub returns-in-Err : goal.returns-in-Err
returns-in-Err c =
    let a = c.args in
    refused (lent a.self a.cells.now) (Call.Commit a.place)
    c.admit.ensures c.in-Err.is c.with.ensures

pub returns-in-Ok : goal.returns-in-Ok
returns-in-Ok c =
    let a = c.args in
    let go = passed (lent a.self a.cells.now) (Call.Commit a.place) c.admit.ensures c.in-Ok.is in
    let n = a.self.commits + 1 in
    let at = c.seat.view_is in
    let words = c.stamp.ensures
    ∙ (λ j. with_cells a.cells.now (map (stamped (number_at a.self (at j)) n) (cells_of a.cells.now))) in
    let place = c.idle.ensures in
    go.is (handed c.with-in-Ok.ensures
    (λ j. answered (Ok n) (lent (with_counts (with_place a.self (at j) (place j)) a.self.starts n) (words j))))
