use Rattle.std.proofs.Common.{rules}
use Rattle.cells.specs.Tables.{held_in}
use Rattle.cells.proofs.Tops.held_by.Goals as goal

pub returns : goal.returns
unfolding held_in
returns c = search rules
