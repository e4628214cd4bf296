use mathlib.Core.Path.{◌≡◌}
use lib.ListN.{drop}
use Rattle.cells.specs.Cells.{cells_of}
use Rattle.cells.specs.Tables.{tops_from, tops_of, any_cell, up_to}
use Rattle.cells.proofs.tops_of.Given as goal

abbrev pub invariant-loop-i : goal.invariant-loop-i
invariant-loop-i l =
    record {
      all : tops_of any_cell (cells_of l.cells) ≡ tops_from any_cell l.all (drop l.i (cells_of l.cells));
      seen : tops_of (up_to l.view) (cells_of l.cells) ≡ tops_from (up_to l.view) l.seen (drop l.i (cells_of l.cells));
    }
