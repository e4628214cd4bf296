use borrow.Author.Rules.{rules}
use Rattle.cells.proofs.Words.{cell_write, write_past}
use Rattle.cells.proofs.put_cell.Goals as goal

-- no cell has the number
pub returns-then-count-i : goal.returns-then-count-i
returns-then-count-i c = write_past _ _ (search rules) _

-- the four words of the cell
pub returns : goal.returns
returns c = cell_write _ _ _ (search rules)
