use Rattle.std.proofs.Common.{rules, tests}
use Rattle.cells.specs.Rules.{foreign_with, foreign_of}
use Rattle.cells.proofs.Scan.{any_cells}
use Rattle.cells.proofs.foreign_with.Goals as goal

pub returns : goal.returns
unfolding foreign_with
returns c =
    any_cells (foreign_of c.args.key c.args.number c.args.other) c.args.cells c.any.new.self _ _ c.any.ensures.ran
    (λ d t after e. search (rules, tests))
