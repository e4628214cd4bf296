use Rattle.std.proofs.Common.{rules}
use Rattle.cells.specs.Tables.{outdated_by}
use Rattle.cells.proofs.Tops.outdated_by.Goals as goal

pub returns-in-Some : goal.returns-in-Some
unfolding outdated_by
returns-in-Some c = search rules

pub returns-in-None : goal.returns-in-None
unfolding outdated_by
returns-in-None c = search rules
