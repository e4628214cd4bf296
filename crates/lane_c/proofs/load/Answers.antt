-- `lane_c::load` meets its contract. Assumes nothing.
use borrow.Author.Rules.{rules}
use mathlib.Core.Path.{◌≡◌, ap, ◌∙◌}
use mathlib.Core.List.{[], map}
use native.Mathlib.Omega.{arith}
use Rattle.steps.specs.Record.{all_places}
use Rattle.lane_c.specs.Words.{place_of_words, places_of, record_of}
use Rattle.lane_c.proofs.Blocks.{made}
use Rattle.lane_c.proofs.Words.{whole_blocks}
use Rattle.lane_c.proofs.load.Goals as goal

pub returns : goal.returns
unfolding record_of places_of
returns c =
    let ws = c.args.words.now in
    let blocks = c.as_chunks.result.0.now in
    let read : c.from_fn.result ≡ map place_of_words blocks =
    made _ _ c.from_fn.result place_of_words blocks [] all_places (λ i y q lt r. search rules) (omega arith) c.from_fn.ensures.items in
    rw (read ∙ ap (map place_of_words) (c.as_chunks.ensures.front ∙ whole_blocks ws c.requires))
