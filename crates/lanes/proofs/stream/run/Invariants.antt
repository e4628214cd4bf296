-- How far the loop has come (`Loop`).
use Rattle.lanes.specs.Desk.{Lent}
use Rattle.lanes.proofs.Loop.{at_start, Led}
use Rattle.lanes.proofs.stream.run.Given as goal

abbrev pub invariant-loop-turn : goal.invariant-loop-turn
invariant-loop-turn g l =
    let here : Lent = record { desk = l.desk; words = l.cells; bytes = l.bytes; answers = l.answers } in
    Led (at_start l.initial.bytes l.initial.answers) (g.R.Read.remaining l.initial.input) (g.W.Write.contents l.initial.output)
    l._turn here (g.R.Read.remaining l.input) (g.W.Write.contents l.output)
