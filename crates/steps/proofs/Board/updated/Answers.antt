-- `Board::updated` meets its contract.
-- Assumes nothing.
use mathlib.Core.Path.{sym, ap, ◌∙◌}
use Rattle.cells.specs.declared.Looked.{Looked}
use Rattle.cells.specs.Cells.{cells_of}
use Rattle.steps.specs.Store.{lent}
use Prim.Native.Nat.{ℕ}
use Rattle.steps.specs.Step.{number_at, view_at, written}
use Rattle.steps.proofs.Ends.{looked_at, looked_own, update_own, update_clash, update_new}
use Rattle.steps.proofs.Board.updated.Goals as goal

pub returns-in-Some : goal.returns-in-Some
returns-in-Some c =
    let a = c.args in
    let look = c.look-asked.ensures ∙ ap (looked_at a.self a.key (cells_of a.cells.now)) c.seat.view_is in
    let found = looked_own a.key (number_at a.self a.seat) (view_at a.self a.seat) (cells_of a.cells.now) look c.in-Some.is in
    update_own (lent a.self a.cells.now) a.seat a.key a.value found c.cell_at-c.ensures
    c.valued.ensures c.put_cell.ensures c.with.ensures

pub returns-then-asked : goal.returns-then-asked
returns-then-asked c =
    let a = c.args in
    let look = c.look-asked.ensures ∙ ap (looked_at a.self a.key (cells_of a.cells.now)) c.seat.view_is in
    let none = looked_own a.key (number_at a.self a.seat) (view_at a.self a.seat) (cells_of a.cells.now) look c.in_default.is in
    let clash = sym (ap (λ (l : Looked). l.conflict) look) ∙ c.if-asked.true in
    update_clash (lent a.self a.cells.now) a.seat a.key a.value none clash c.lost.ensures

pub returns : goal.returns
returns c =
    let a = c.args in
    let look = c.look-asked.ensures ∙ ap (looked_at a.self a.key (cells_of a.cells.now)) c.seat.view_is in
    let none = looked_own a.key (number_at a.self a.seat) (view_at a.self a.seat) (cells_of a.cells.now) look c.in_default.is in
    let calm = sym (ap (λ (l : Looked). l.conflict) look) ∙ c.if-asked.false in
    update_new (lent a.self a.cells.now) a.seat a.key a.value none calm
    (c.written.ensures ∙ ap (λ (p : ℕ). written (lent a.self a.cells.now) (number_at a.self p) a.key a.value) c.seat.view_is)
