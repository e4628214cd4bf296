-- `Facts::check` meets its contract: the rows of the code are those of the definition, and a search finds the first that holds.
-- Assumes nothing.
use mathlib.Core.Path.{refl, sym, ap, ◌∙◌}
use mathlib.Core.Bool.{Bool}
use mathlib.Core.List.{List}
use borrow.Author.Rules.{rules}
use borrow.Author.Tests.{tests}
use Rattle.std.specs.Prelude.{Ok}
use Rattle.std.specs.Option.{option_map}
use Rattle.std.proofs.lemmas.Iterator.{YieldsList-from_slice}
use Rattle.std.proofs.lemmas.Iterator.Search.{find_from_yields_List}
use Rattle.records.specs.declared.Refusal.{Refusal}
use Rattle.steps.specs.Check.{first_of, check_of}
use Rattle.steps.proofs.Rows.{rows_of, first_said}
use Rattle.steps.proofs.Facts.check.Goals as goal

pub returns-in-Some : goal.returns-in-Some
unfolding check_of
returns-in-Some c =
    let l = c.iter.result.rest.now in
    let found =
    find_from_yields_List (λ (r : Refusal × Bool). r.1) _ _ _ c.find.ensures.ran (YieldsList-from_slice l refl) (λ x b q k. search (rules, tests)) in
    first_said l (sym (ap (option_map (λ r. r.now)) c.in-Some.is) ∙ found) ∙ ap (λ (l : List (Refusal × Bool)). first_of (rows_of l) (Ok 0)) c.iter.ensures.rest

pub returns-in-None : goal.returns-in-None
unfolding check_of
returns-in-None c =
    let l = c.iter.result.rest.now in
    let found =
    find_from_yields_List (λ (r : Refusal × Bool). r.1) _ _ _ c.find.ensures.ran (YieldsList-from_slice l refl) (λ x b q k. search (rules, tests)) in
    first_said l (sym (ap (option_map (λ r. r.now)) c.in-None.is) ∙ found) ∙ ap (λ (l : List (Refusal × Bool)). first_of (rows_of l) (Ok 0)) c.iter.ensures.rest
