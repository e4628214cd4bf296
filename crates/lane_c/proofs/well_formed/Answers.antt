-- `lane_c::well_formed` meets its contract. Assumes nothing.
use borrow.Author.Rules.{rules}
use mathlib.Core.Path.{◌≡◌, ap, ◌∙◌}
use Rattle.std.proofs.Common.{tests}
use Rattle.std.proofs.lemmas.Iterator.{YieldsList-from_slice}
use Rattle.std.proofs.lemmas.Iterator.Search.{all_from_yields_List}
use Rattle.std.specs.List.{list_all}
use Rattle.lane_c.specs.Words.{place_fits}
use Rattle.lane_c.proofs.Words.{well_by_places, well_by_length}
use Rattle.lane_c.proofs.well_formed.Goals as goal

pub returns-then-words-eq-WORDS : goal.returns-then-words-eq-WORDS
returns-then-words-eq-WORDS c =
    let places = c.as_chunks.result.0.now in
    let each : c.all.result ≡ list_all place_fits places =
    all_from_yields_List place_fits _ _ _ c.all.ensures.ran (YieldsList-from_slice places cc) (λ x b q k. search (rules, tests)) in
    each ∙ ap (list_all place_fits) c.as_chunks.ensures.front ∙ well_by_places c.args.words.now c.if-words-eq-WORDS.true

pub returns-else-words-eq-WORDS : goal.returns-else-words-eq-WORDS
returns-else-words-eq-WORDS c = well_by_length c.args.words.now c.if-words-eq-WORDS.false
