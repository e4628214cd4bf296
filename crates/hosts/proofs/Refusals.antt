-- Demand 1 of `lane_call`, on any words and numbers.
--     refusal_leaves_all     a refusal leaves every word as it was, but for CONFLICT's one state word
--     from_the_list          the number is one of the list
-- Assumes nothing.
use Rattle.std.specs.Prelude.{Option, Some, None, Err}
use mathlib.Core.Path.{◌≡◌, refl, ap, ◌∙◌}
use mathlib.Core.Bool.{true}
use mathlib.Core.List.{List, [], ◌∷◌}
use Prim.Native.Nat.{ℕ, zero, suc, ◌≤◌}
use native.Mathlib.Omega.{arith}
use lib.ListN.{get_or, set}
use Rattle.records.specs.declared.Refusal.{Refusal}
use Rattle.records.specs.declared.Call.{Call}
use Rattle.records.specs.Answers.{Answer, number_of, value_of, place_of}
use Rattle.steps.specs.declared.State.{State}
use Rattle.steps.specs.declared.Board.{Board}
use Rattle.steps.specs.Record.{place_at, with_place, in_state}
use Rattle.steps.specs.Store.{Store}
use Rattle.steps.specs.Step.{step}
use Rattle.steps.proofs.Tests.{by_test}
use Rattle.steps.proofs.Refusals.{ChangesNothing, refusal_changes_nothing}
use Rattle.steps.proofs.Exact.{never_above}
use Rattle.lane_c.specs.Words.{state_word_at, state_word, record_of, words_of_record, well_formed}
use Rattle.lane_c.specs.Call.{call_named, Crossed, store_of, refused_with, outcome_words, step_on_words, on_named, lane_call}
use Rattle.lane_c.proofs.Words.{open_inside, open_word, state_set, words_record}
use Rattle.hosts.specs.Refusals.{LeavesAll, RefusalLeavesAll, FromTheList}

module _ (ws cs : List ℕ) where
  -- a refusal that hands all back
  plain : (a : Answer) (place : ℕ) → (number_of a ≡ number_of (Err Refusal.Conflict) → ⊥) → value_of a ≡ 0 → LeavesAll ws cs place (refused_with a ws cs)
  plain a place n v =
      record { value = v; cells = refl; words = λ _. refl; was = λ e. absurd (n e); spoiled = λ e. absurd (n e) }

  -- a step on the record
  module _ (w : well_formed ws ≡ true) where
    -- one state word
    spoiled_words : (p : ℕ) → (place_at (record_of ws) p).state ≡ State.Open
        → words_of_record (with_place (record_of ws) p (in_state State.Spoiled (place_at (record_of ws) p)))
        ≡ set ws (state_word_at p) (state_word State.Spoiled)
    unfolding record_of words_of_record
    spoiled_words p o =
        let b : Board = record_of ws in
        state_set b.places (b.starts ∷ (b.commits ∷ [])) p State.Spoiled (open_inside b.places p o)
        ∙ ap (λ (l : List ℕ). set l (state_word_at p) (state_word State.Spoiled)) (words_record ws w)

    was_open : (p : ℕ) → (place_at (record_of ws) p).state ≡ State.Open → get_or ws (state_word_at p) 0 ≡ state_word State.Open
    unfolding record_of
    was_open p o = open_word ws p o

    stepped : (call : Call) → ((step (store_of ws cs) call).said.number ≡ 0 → ⊥)
        → LeavesAll ws cs (place_of call) (outcome_words (step (store_of ws cs) call))
    stepped call r =
        let c : ChangesNothing (store_of ws cs) (place_of call) (step (store_of ws cs) call) = refusal_changes_nothing (store_of ws cs) call r in
        let record_of : Store → List ℕ = λ st. words_of_record st.board in
        record {
          value = c.value;
          cells = c.words;
          words = λ n. ap record_of (c.board n) ∙ words_record ws w;
          was = λ e. was_open (place_of call) (c.open_before e);
          spoiled = λ e. ap record_of (c.spoiled_after e) ∙ spoiled_words (place_of call) (c.open_before e);
        }

  -- a call
  abbrev Leaves : ℕ → Crossed → Type 0
  Leaves place x = (x.said.number ≡ 0 → ⊥) → LeavesAll ws cs place x

  on_call : (call : Call) → Leaves (place_of call) (step_on_words ws cs call)
  on_call call =
      by_test (Leaves (place_of call)) (well_formed ws)
      (λ w. stepped w call)
      (λ _ _. plain (Err Refusal.Board) (place_of call) (λ e. omega arith) refl)

  on_none : (place : ℕ) → Leaves place (refused_with (Err Refusal.Record) ws cs)
  on_none place _ = plain (Err Refusal.Record) place (λ e. omega arith) refl

  listed : (read : Option Call) → (on_named read ws cs).said.number ≤ number_of (Err Refusal.Record)
  listed (Some call) =
      by_test (λ (x : Crossed). x.said.number ≤ number_of (Err Refusal.Record)) (well_formed ws)
      (λ _. omega (arith, never_above (store_of ws cs) call))
      (λ _. omega arith)
  listed None = omega arith

-- by the kinds
pub refusal_leaves_all : RefusalLeavesAll
unfolding lane_call
refusal_leaves_all ws cs zero place key value = on_none ws cs place
refusal_leaves_all ws cs (suc zero) place key value = on_call ws cs (Call.Start place)
refusal_leaves_all ws cs (suc (suc zero)) place key value = on_call ws cs (Call.Read place key)
refusal_leaves_all ws cs (suc (suc (suc zero))) place key value = on_call ws cs (Call.Update place key value)
refusal_leaves_all ws cs (suc (suc (suc (suc zero)))) place key value = on_call ws cs (Call.Prepare place)
refusal_leaves_all ws cs (suc (suc (suc (suc (suc zero))))) place key value = on_call ws cs (Call.Commit place)
refusal_leaves_all ws cs (suc (suc (suc (suc (suc (suc zero)))))) place key value = on_call ws cs (Call.Rollback place)
refusal_leaves_all ws cs (suc (suc (suc (suc (suc (suc (suc kind))))))) place key value = on_none ws cs place

pub from_the_list : FromTheList
unfolding lane_call
from_the_list ws cs kind place key value = listed ws cs (call_named kind place key value)
