-- `serve` meets its contract. The loop's invariant: what serving it all comes to is what is left to serve from here (`Rest`).
-- Assumes nothing.
use mathlib.Core.Path.{◌≡◌}
use Prim.Native.Nat.{◌-◌}
use Rattle.steps.specs.Store.{lent}
use Rattle.lanes.specs.Serve.{serve_into}
use Rattle.lanes.proofs.Rest.{rest, last_stop}
use Rattle.lanes.proofs.serve.Given as goal

abbrev pub invariant-loop-i : goal.invariant-loop-i
invariant-loop-i l =
    serve_into (lent l.initial.board l.initial.cells) l.calls l.initial.answers
    ≡ rest (l.records - l.i) l.i (last_stop l.calls l.records) (lent l.board l.cells) l.calls l.answers
