-- The contract determines answer, record and every lent word, refusals too: what a step hands back is the only thing that meets it.
--     unique     what two functions hand back, and the words as they leave them, are equal where both meet a step's contract
-- Assumes nothing.
use Rattle.std.specs.Prelude.{Ok, Err}
use Prim.Native.Nat.{ℕ}
use mathlib.Core.Path.{◌≡◌, refl, sym, ap, ◌∙◌}
use mathlib.Core.List.{List}
use Rattle.records.specs.declared.Call.{Call}
use Rattle.records.specs.declared.Refusal.{Refusal}
use Rattle.records.specs.Answers.{Answer, number_of, value_of}
use Rattle.records.specs.Format.{answer_of}
use Rattle.steps.specs.declared.Answered.{Answered}
use Rattle.steps.specs.Store.{Store, Outcome}
use Rattle.steps.specs.Step.{outcome, step}

-- an answer is the one that its number and its value name
answer_of_lem : (a : Answer) → answer_of (number_of a) (value_of a) ≡ a
answer_of_lem (Ok v) = refl
answer_of_lem (Err Refusal.Board) = refl
answer_of_lem (Err Refusal.Place) = refl
answer_of_lem (Err Refusal.Busy) = refl
answer_of_lem (Err Refusal.Idle) = refl
answer_of_lem (Err Refusal.Worn) = refl
answer_of_lem (Err Refusal.Spoiled) = refl
answer_of_lem (Err Refusal.Held) = refl
answer_of_lem (Err Refusal.Key) = refl
answer_of_lem (Err Refusal.Conflict) = refl
answer_of_lem (Err Refusal.Prepared) = refl
answer_of_lem (Err Refusal.Full) = refl
answer_of_lem (Err Refusal.Record) = refl

-- the whole of what was handed back can be read off an outcome
answered_of : Outcome → Answered
answered_of o = record { answer = answer_of o.said.number o.said.value; board = o.store.board }

answered_is : (r : Answered) (ws : List ℕ) → answered_of (outcome r ws) ≡ r
unfolding answered_of
answered_is r ws = λ i. record { answer = answer_of_lem r.answer i; board = r.board }

-- the contract of a step that returns r and leaves the words us is `outcome r us ≡ step st call`
pub unique : (st : Store) (call : Call) (r s : Answered) (us vs : List ℕ)
    → outcome r us ≡ step st call → outcome s vs ≡ step st call → (r ≡ s) × (us ≡ vs)
unique st call r s us vs e f =
    let same : outcome r us ≡ outcome s vs = e ∙ sym f in
    (sym (answered_is r us) ∙ ap answered_of same ∙ answered_is s vs, ap (λ (o : Outcome). o.store.words) same)
