use borrow.Author.Rules.{rules}
use mathlib.Core.Path.{◌∙◌}
use Rattle.cells.proofs.Words.{cell_read, cell_past}
use Rattle.cells.proofs.cell_at.Goals as goal

-- no cell has the number
pub returns-then-count-i : goal.returns-then-count-i
returns-then-count-i c = c.none.ensures ∙ cell_past _ _ (search rules)

-- the four words of the cell
pub returns : goal.returns
returns c = cell_read _ _ (search rules)
