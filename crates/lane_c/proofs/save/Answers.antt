-- `lane_c::save` meets its contract: a turn writes one place more, and after the last the counts stand behind. Assumes nothing.
use mathlib.Core.Path.{refl}
use mathlib.Core.List.{flat_map}
use native.Mathlib.Omega.{arith}
use Rattle.steps.proofs.Places.{long}
use Rattle.lane_c.specs.Words.{words_of_places}
use Rattle.lane_c.proofs.Words.{save_turn, save_end}
use Rattle.lane_c.proofs.save.Goals as goal

pub loop-i-init : goal.loop-i-init
unfolding words_of_places flat_map
loop-i-init c = refl

pub loop-i-preserved : goal.loop-i-preserved
loop-i-preserved c =
    let l = c.loop-i in
    save_turn l.words (omega arith) c.args.b (search long) l.i l.invariant _ _ (omega arith) c.put_place.ensures

pub returns : goal.returns
returns c =
    let l = c.loop-i in
    save_end l.words (omega arith) c.args.b (search long) l.i l.invariant (omega arith)
