use Rattle.std.proofs.Common.{rules}
use Rattle.cells.specs.Tables.{surpassed_in}
use Rattle.cells.proofs.Tops.surpassed.Goals as goal

pub returns : goal.returns
unfolding surpassed_in
returns c = search rules
