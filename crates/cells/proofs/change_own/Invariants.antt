use mathlib.Core.Path.{◌≡◌}
use Prim.Native.Nat.{◌-◌}
use lib.ListN.{length}
use Rattle.cells.specs.declared.Cell.{Cell}
use Rattle.cells.specs.Cells.{cells_of, with_cells, count_of}
use Rattle.cells.specs.Search.{Gives, Leaves}
use Rattle.cells.proofs.Laws.{map_to}
use Rattle.cells.proofs.change_own.Given as goal

abbrev pub invariant-loop-i : goal.invariant-loop-i
invariant-loop-i g l =
    (length l.cells ≡ length l.initial.cells)
    × ((f : Cell → Cell) → Gives (goal.F-post g l.change) f → Leaves l.number f
    → l.cells ≡ with_cells l.initial.cells (map_to l.from f (cells_of l.initial.cells)))

abbrev pub decreases-loop-i : goal.decreases-loop-i
decreases-loop-i g l = count_of (length l.cells) - l.from
