-- `Board::has_distinct` meets its contract. The invariant: what is left to look at answers for the whole.
-- Assumes nothing.
use mathlib.Core.Path.{◌≡◌, refl, sym, ◌∙◌}
use native.Mathlib.Omega.{arith}
use lib.ListN.{length}
use Rattle.steps.specs.Record.{all_places}
use Rattle.steps.proofs.Places.{long, distinct_turn}
use Rattle.steps.proofs.Board.has_distinct.Goals.{else-not-is_idle-via-then-not-is_idle+else-has_number, else-not-is_idle-via-else-not-is_idle}
use Rattle.steps.proofs.Board.has_distinct.Goals as goal

pub loop-i-preserved : goal.loop-i-preserved
loop-i-preserved c =
    let ps = c.args.self.now.places in
    let h : length ps ≡ all_places = search long in
    c.loop-i.invariant
    ∙ elim c.else-not-is_idle.branch [
      | else-not-is_idle-via-then-not-is_idle+else-has_number w ↦
          let held = sym c.is_idle.ensures ∙ w.if-not-is_idle.true in
          distinct_turn ps c.loop-i.i (omega arith) held (sym w.has_number.ensures ∙ w.if-has_number.false)
      | else-not-is_idle-via-else-not-is_idle w ↦
          distinct_turn ps c.loop-i.i (omega arith) (sym c.is_idle.ensures ∙ w.if-not-is_idle.false) refl
    ]
