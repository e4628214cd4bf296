-- `Board::in_shape` meets its contract: the code makes the tests of the definition, in its order.
-- Assumes nothing.
use mathlib.Core.Bool.{◌&&◌}
use Prim.Native.Nat.{◌+◌}
use lib.Dec.{leb}
use Rattle.steps.specs.Record.{most_starts}
use Rattle.steps.specs.Shape.{in_shape}
use Rattle.steps.proofs.Board.in_shape.Goals as goal

pub returns : goal.returns
unfolding in_shape
returns c =
    let b = c.args.self.now in
    λ j.
    c.whole.ensures j
    && leb b.starts most_starts
    && leb (b.commits + c.held_count-n.ensures j) b.starts
    && c.has_distinct.ensures j
    && c.has_counted.ensures j
