-- One call over words: what C and Rust hand in, and what comes back.
-- Assumes nothing.
use Rattle.std.specs.Prelude.{cond, List, [], ◌∷◌, ℕ, ◌/◌, ◌%◌, get_or, Option, Some, None, Err}
use Rattle.records.specs.declared.Call.{Call}
use Rattle.records.specs.declared.Refusal.{Refusal}
use Rattle.records.specs.Answers.{Answer}
use Rattle.steps.specs.Store.{Store, Said, Outcome, lent, said_of}
use Rattle.steps.specs.Step.{step}
use Rattle.lane_c.specs.Words.{record_of, words_of_record, well_formed}

-- kind (1 start, 2 read, 3 update, 4 prepare, 5 commit, 6 rollback); key and value are ignored where the kind has none
abbrev pub call_named : ℕ → ℕ → ℕ → ℕ → Option Call
call_named kind place key value =
    get_or
    (None ∷ (Some (Call.Start place) ∷ (Some (Call.Read place key) ∷
    (Some (Call.Update place key value) ∷ (Some (Call.Prepare place) ∷
    (Some (Call.Commit place) ∷ (Some (Call.Rollback place) ∷ [])))))))
    kind
    None

-- the upper 32 bits of a 64-bit word
abbrev pub upper : ℕ → ℕ
upper r = r / 4_294_967_296

-- the lower 32 bits
abbrev pub lower : ℕ → ℕ
lower r = r % 4_294_967_296

-- what comes back: the refusal number and the value, the words of the record, and the words of the cells
pub record Crossed : Type 0 where
  pub said : Said
  pub words : List ℕ
  pub cells : List ℕ

-- the refusal number in the upper and the value in the lower 32 bits
abbrev pub crossed : ℕ → List ℕ → List ℕ → Crossed
crossed r ws cs = record { said = record { number = upper r; value = lower r }; words = ws; cells = cs }

-- a refusal that changes nothing
abbrev pub refused_with : Answer → List ℕ → List ℕ → Crossed
refused_with a ws cs = record { said = said_of a; words = ws; cells = cs }

-- what a step came to, its record as words
abbrev pub outcome_words : Outcome → Crossed
outcome_words o = record { said = o.said; words = words_of_record o.store.board; cells = o.store.words }

-- the store that words of a record and of cells are
abbrev pub store_of : List ℕ → List ℕ → Store
store_of ws cs = lent (record_of ws) cs

-- a record of other than 50 words or with a state word above 3 is 1 BOARD; otherwise the call does its step
abbrev pub step_on_words : List ℕ → List ℕ → Call → Crossed
step_on_words ws cs call = cond (well_formed ws) (outcome_words (step (store_of ws cs) call)) (refused_with (Err Refusal.Board) ws cs)

-- a kind other than 1 to 6 is 12 RECORD, before anything else
abbrev pub on_named : Option Call → List ℕ → List ℕ → Crossed
on_named (Some call) ws cs = step_on_words ws cs call
on_named None ws cs = refused_with (Err Refusal.Record) ws cs

-- lane_call
unfoldable pub lane_call : List ℕ → List ℕ → ℕ → ℕ → ℕ → ℕ → Crossed
lane_call ws cs kind place key value = on_named (call_named kind place key value) ws cs
