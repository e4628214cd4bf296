-- Any sequence of calls, the board passed on untouched between them.
-- Assumes nothing.
use Rattle.std.specs.Prelude.{List, [], ◌∷◌, map}
use Rattle.records.specs.declared.Call.{Call}
use Rattle.steps.specs.Store.{Store, Said}
use Rattle.steps.specs.Step.{step}

-- a call, and what its answer said
pub record Pair : Type 0 where
  pub call : Call
  pub said : Said

-- what a sequence of calls comes to: each with what was said to it, and the store after the last
pub record Run : Type 0 where
  pub pairs : List Pair
  pub store : Store

-- a pair before those of a run
abbrev pub first : Pair → Run → Run
first h r = record { pairs = h ∷ r.pairs; store = r.store }

-- the call with what the step said to it
abbrev pub pair_of : Store → Call → Pair
pair_of st c = record { call = c; said = (step st c).said }

-- each call does its step on the store that the call before it left
unfoldable pub run : Store → List Call → Run
run st [] = record { pairs = []; store = st }
run st (c ∷ cs) = first (pair_of st c) (run (step st c).store cs)

-- the calls of pairs
abbrev pub calls_of : List Pair → List Call
calls_of hs = map (λ (h : Pair). h.call) hs
