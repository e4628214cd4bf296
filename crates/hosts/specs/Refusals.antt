-- Demand 1 of `lane_call`: every call ends with an answer or a refusal from the list, and what a refusal leaves.
-- Assumes nothing.
use Rattle.std.specs.Prelude.{◌≡◌, List, ℕ, ◌≤◌, get_or, set, Err}
use Rattle.records.specs.declared.Refusal.{Refusal}
use Rattle.records.specs.Answers.{number_of}
use Rattle.steps.specs.declared.State.{State}
use Rattle.lane_c.specs.Words.{state_word_at, state_word}
use Rattle.lane_c.specs.Call.{Crossed, lane_call}

-- every refusal returns value 0 and changes no word of the cells, and no word of the record; only CONFLICT sets one word there: the
-- state of the caller's place, which was open and is spoiled
pub record LeavesAll (ws cs : List ℕ) (place : ℕ) (x : Crossed) : Type 0 where
  pub value : x.said.value ≡ 0
  pub cells : x.cells ≡ cs
  pub words : (x.said.number ≡ number_of (Err Refusal.Conflict) → ⊥) → x.words ≡ ws
  pub was : x.said.number ≡ number_of (Err Refusal.Conflict) → get_or ws (state_word_at place) 0 ≡ state_word State.Open
  pub spoiled : x.said.number ≡ number_of (Err Refusal.Conflict) → x.words ≡ set ws (state_word_at place) (state_word State.Spoiled)

-- for any words, be they a record or not, any words of cells, and any numbers
abbrev pub RefusalLeavesAll : Type 0
RefusalLeavesAll = (ws cs : List ℕ) (kind place key value : ℕ) → ((lane_call ws cs kind place key value).said.number ≡ 0 → ⊥)
    → LeavesAll ws cs place (lane_call ws cs kind place key value)

-- and the number is one of the list, 0 to 12
abbrev pub FromTheList : Type 0
FromTheList = (ws cs : List ℕ) (kind place key value : ℕ) → (lane_call ws cs kind place key value).said.number ≤ number_of (Err Refusal.Record)
