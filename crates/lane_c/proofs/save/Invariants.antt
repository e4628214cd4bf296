-- `lane_c::save` meets its contract. The invariant: the words written are those of the first places. Assumes nothing.
use mathlib.Core.Path.{◌≡◌}
use lib.ListN.{take}
use Rattle.lane_c.specs.Words.{state_word_at, words_of_places}
use Rattle.lane_c.proofs.save.Given as goal

abbrev pub invariant-loop-i : goal.invariant-loop-i
invariant-loop-i l = take (state_word_at l.i) l.words ≡ words_of_places (take l.i l.fn.b.places)
