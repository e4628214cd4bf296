-- `held_back` meets its contract.
-- Assumes nothing.
use mathlib.Core.Path.{◌∙◌}
use borrow.Author.Rules.{rules}
use borrow.Author.Tests.{tests}
use Rattle.std.proofs.lemmas.Iterator.{YieldsList-from_slice}
use Rattle.std.proofs.lemmas.Iterator.Search.{any_from_yields_List}
use Rattle.cells.specs.Cells.{cells_of}
use Rattle.steps.specs.Spent.{holds_back, held_back}
use Rattle.steps.proofs.Spent.{has_is_any}
use Rattle.steps.proofs.held_back.Goals as goal

pub returns : goal.returns
unfolding held_back
returns c =
    let a = c.args in
    any_from_yields_List _ _ _ _ c.any.ensures.ran (YieldsList-from_slice a.places cc) (λ x b q k. search (rules, tests))
    ∙ has_is_any (holds_back a.key a.number (cells_of a.cells.now)) a.places
