-- `Board::shown` meets its contract.
-- Assumes nothing.
use mathlib.Core.Path.{◌≡◌, sym, ap, ◌∙◌}
use mathlib.Core.Bool.{false}
use Rattle.cells.specs.declared.Looked.{Looked}
use Rattle.cells.specs.Cells.{cells_of}
use Rattle.steps.specs.Spent.{held_back}
use Rattle.steps.specs.Store.{lent}
use Rattle.steps.specs.Step.{number_at, view_at}
use Rattle.steps.proofs.Quick.{none_back}
use Rattle.steps.proofs.Ends.{looked_at, held_at, looked_own, read_own, read_held, read_seen}
use Rattle.steps.proofs.Board.shown.Goals.{else-look-via-then-look+else-held_back, else-look-via-else-look}
use Rattle.steps.proofs.Board.shown.Goals as goal

pub returns-in-Some : goal.returns-in-Some
returns-in-Some c =
    let a = c.args in
    let look = c.look-look.ensures ∙ ap (looked_at a.self.now a.key (cells_of a.cells.now)) c.seat.view_is in
    let found = looked_own a.key (number_at a.self.now a.seat) (view_at a.self.now a.seat) (cells_of a.cells.now) look c.in-Some.is in
    read_own (lent a.self.now a.cells.now) a.seat a.key found c.cell_at.ensures

pub returns-then-held_back : goal.returns-then-held_back
returns-then-held_back c =
    let a = c.args in
    let look = c.look-look.ensures ∙ ap (looked_at a.self.now a.key (cells_of a.cells.now)) c.seat.view_is in
    let held = c.held_back.ensures ∙ ap (held_at a.self.now a.key (cells_of a.cells.now)) c.seat.view_is in
    let none = looked_own a.key (number_at a.self.now a.seat) (view_at a.self.now a.seat) (cells_of a.cells.now) look c.in_default.is in
    read_held (lent a.self.now a.cells.now) a.seat a.key none (sym held ∙ c.if-held_back.true)

pub returns : goal.returns
returns c =
    let a = c.args in
    let key = a.key in
    let number = number_at a.self.now a.seat in
    let cs = cells_of a.cells.now in
    let look = c.look-look.ensures ∙ ap (looked_at a.self.now key cs) c.seat.view_is in
    let none = looked_own key number (view_at a.self.now a.seat) cs look c.in_default.is in
    let free = elim c.else-look.branch as (λ w. held_back key number a.self.now.places cs ≡ false) [
      | else-look-via-then-look+else-held_back w ↦
          sym (w.held_back.ensures ∙ ap (held_at a.self.now key cs) c.seat.view_is) ∙ w.if-held_back.false
      | else-look-via-else-look w ↦
          none_back key number a.self.now.places cs (sym (ap (λ (l : Looked). l.foreign) look) ∙ w.if-look.false)
    ] in
    read_seen (lent a.self.now a.cells.now) a.seat key none free (ap (λ (l : Looked). l.newest) look)
