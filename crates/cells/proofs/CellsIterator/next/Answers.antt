use borrow.Author.Rules.{rules}
use Rattle.cells.proofs.Words.{few_words, first_cell, one_less}
use Rattle.cells.proofs.CellsIterator.next.Goals as goal

pub returns-in_default-clause-steps : goal.returns-in_default-clause-steps
returns-in_default-clause-steps c = let none = few_words _ c.in_default.len_below in (none, none)

pub returns-clause-steps : goal.returns-clause-steps
returns-clause-steps c = first_cell _ c.in-len4-up.len_at_least

pub returns-clause-goes : goal.returns-clause-goes
returns-clause-goes c = let less = one_less c.args.self.now.0.now c.in-len4-up.len_at_least in search (rules, less)
