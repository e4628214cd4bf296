-- `reusable` meets its contract. Outer invariant: the lowest free cell is the lowest of those yet to be looked at.
-- Inner invariant: a place that keeps the cell is one of those yet to be looked at. The tables settle most cells before it.
-- Assumes nothing.
use mathlib.Core.Path.{◌≡◌}
use lib.ListN.{drop}
use Rattle.cells.specs.Cells.{cells_of}
use Rattle.cells.specs.Rules.{lowest_from}
use Rattle.steps.specs.Spent.{has_place, keeps_at, free, reusable}
use Rattle.steps.proofs.reusable.Given as goal

abbrev pub invariant-places : goal.invariant-places
invariant-places l =
    has_place (keeps_at (cells_of l.cells) l.c) l.places ≡ has_place (keeps_at (cells_of l.cells) l.c) (drop l.p-index l.places)

abbrev pub invariant-cells : goal.invariant-cells
invariant-cells l =
    reusable l.places (cells_of l.cells) ≡ lowest_from l.at (free l.places (cells_of l.cells)) (drop l.at (cells_of l.cells))
