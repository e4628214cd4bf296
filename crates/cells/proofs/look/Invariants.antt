use mathlib.Core.Path.{◌≡◌}
use Prim.Native.Nat.{◌-◌}
use lib.ListN.{length, drop}
use Rattle.cells.specs.Cells.{cells_of, count_of}
use Rattle.cells.specs.Search.{no_look, look_from}
use Rattle.cells.proofs.look.Given as goal

abbrev pub invariant-loop-at : goal.invariant-loop-at
invariant-loop-at l =
    look_from l.key l.number l.view 0 no_look (cells_of l.cells) ≡ look_from l.key l.number l.view l.from l.seen (drop l.from (cells_of l.cells))

abbrev pub decreases-loop-at : goal.decreases-loop-at
decreases-loop-at l = count_of (length l.cells) - l.from
