use mathlib.Core.Path.{◌≡◌}
use lib.ListN.{drop}
use Rattle.cells.specs.Cells.{cells_of}
use Rattle.cells.specs.Rules.{newer, has_cell}
use Rattle.cells.proofs.outdated.Given as goal

abbrev pub invariant-loop-i : goal.invariant-loop-i
invariant-loop-i l = has_cell (newer l.c) (cells_of l.cells) ≡ has_cell (newer l.c) (drop l.i (cells_of l.cells))
