-- `turn_on` meets its contract: what it calls comes to `turn_is` of `Turns`. Assumes nothing.
use mathlib.Core.Path.{sym}
use native.Mathlib.Omega.{arith}
use lib.Seq.{length-take-le}
use Rattle.steps.specs.Store.{lent}
use Rattle.lanes.proofs.Turns.{taken_there, turn_is}
use Rattle.lanes.proofs.turn_on.Goals as goal

pub slice_bounds-serve-end-2 : goal.slice_bounds-serve-end-2
slice_bounds-serve-end-2 c =
    let s = c.args in
    sym (length-take-le s.have s.bytes.now (omega arith))

pub copy_within-requires-clause-start_le_end : goal.copy_within-requires-clause-start_le_end
copy_within-requires-clause-start_le_end c =
    taken_there (lent c.args.board c.args.cells.now) c.args.bytes.now c.args.have c.args.answers.now c.requires.0 c.requires.1
    c.serve-s.result c.serve-s.new.cells c.serve-s.new.answers c.serve-s.ensures

pub overflow_sub-result : goal.overflow_sub-result
overflow_sub-result c =
    taken_there (lent c.args.board c.args.cells.now) c.args.bytes.now c.args.have c.args.answers.now c.requires.0 c.requires.1
    c.serve-s.result c.serve-s.new.cells c.serve-s.new.answers c.serve-s.ensures

pub returns : goal.returns
returns c =
    turn_is (lent c.args.board c.args.cells.now) c.args.bytes.now c.args.have c.args.answers.now c.requires.0 c.requires.1
    c.serve-s.result c.serve-s.new.cells c.copy_within.new.self c.serve-s.new.answers c.more_after.result
    c.serve-s.ensures c.copy_within.ensures.after c.more_after.ensures
