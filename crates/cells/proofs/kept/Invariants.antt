use mathlib.Core.Path.{◌≡◌}
use Prim.Native.Nat.{◌-◌}
use lib.ListN.{length, drop}
use Rattle.cells.specs.Cells.{cells_of, count_of}
use Rattle.cells.specs.Rules.{between, has_cell}
use Rattle.cells.proofs.kept.Given as goal

abbrev pub invariant-loop-at : goal.invariant-loop-at
invariant-loop-at l = has_cell (between l.c l.view) (cells_of l.cells) ≡ has_cell (between l.c l.view) (drop l.from (cells_of l.cells))

abbrev pub decreases-loop-at : goal.decreases-loop-at
decreases-loop-at l = count_of (length l.cells) - l.from
