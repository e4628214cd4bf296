use mathlib.Core.Path.{◌≡◌}
use mathlib.Core.Bool.{Bool, false}
use Prim.Native.Nat.{ℕ, ◌-◌, ◌≤◌, ◌<◌}
use lib.ListN.{get_or}
use Rattle.cells.specs.declared.Cell.{Cell}
use Rattle.cells.specs.Cells.{cells_of, no_cell}
use Rattle.cells.specs.Search.{Gives}
use Rattle.cells.proofs.next.Given as goal

abbrev pub invariant-loop-i : goal.invariant-loop-i
invariant-loop-i g l =
    (l.from ≤ l.i)
    × ((p : Cell → Bool) → Gives (goal.F-post g l.test) p → (k : ℕ) → k < l.i → l.from ≤ k → p (get_or (cells_of l.cells) k no_cell) ≡ false)

abbrev pub decreases-loop-i : goal.decreases-loop-i
decreases-loop-i g l = l.n - l.i
