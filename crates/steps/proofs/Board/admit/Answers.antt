-- `Board::admit` makes a seat of the call's place where no check refuses.
-- Assumes nothing.
use Rattle.steps.specs.Check.{board_facts}
use Rattle.steps.proofs.Checks.{placed}
use Rattle.steps.proofs.Board.admit.Goals as goal

pub invariant_of-result : goal.invariant_of-result
invariant_of-result c =
    let a = c.args in
    placed (board_facts a.self.now a.words a.call) c.place_of.ensures c.check.ensures c.in_ok-check.was
