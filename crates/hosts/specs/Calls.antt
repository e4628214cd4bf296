-- `lane_call` again and again: what a host asks and gets back, as a history.
-- Assumes nothing.
use Rattle.std.specs.Prelude.{◌≡◌, ◌⊎◌, ◌↔◌, List, [], ◌∷◌, ◌++◌, map, ℕ, ◌*◌, ◌≤◌, ◌<◌, length, get_or, Option, Some, None, Ok, Err}
use Rattle.records.specs.declared.Call.{Call}
use Rattle.records.specs.declared.Refusal.{Refusal}
use Rattle.records.specs.Answers.{number_of}
use Rattle.steps.specs.Record.{most_cells, fresh_words}
use Rattle.steps.specs.Store.{Said, said_of}
use Rattle.steps.specs.Run.{Pair, Run}
use Rattle.history.specs.History.{ledger, from_fresh, Demand3}
use Rattle.history.specs.Verdict.{NeedsCell, Packed, Right}
use Rattle.lane_c.specs.Words.{record_words, words_of_record}
use Rattle.lane_c.specs.Call.{call_named, Crossed, store_of, lane_call}

-- WHAT A HOST DOES

-- what it asks of lane_call: a kind, a place, a key and a value
pub record Asked : Type 0 where
  pub kind : ℕ
  pub place : ℕ
  pub key : ℕ
  pub value : ℕ

-- and what it got back: a number and a value
pub record Got : Type 0 where
  pub asked : Asked
  pub said : Said

-- what stands where nothing was asked
abbrev pub nothing_got : Got
nothing_got = record { asked = record { kind = 0; place = 0; key = 0; value = 0 }; said = said_of (Ok 0) }

-- lane_call with these numbers, on the words of a record and of cells
abbrev pub call_on : List ℕ → List ℕ → Asked → Crossed
call_on ws cs a = lane_call ws cs a.kind a.place a.key a.value

-- what a sequence of lane_calls comes to: what each got, and the last words
pub record Called : Type 0 where
  pub got : List Got
  pub words : List ℕ
  pub cells : List ℕ

-- one after the other, the words passed on untouched between them
unfoldable pub calls_on : List ℕ → List ℕ → List Asked → Called
calls_on ws cs [] = record { got = []; words = ws; cells = cs }
calls_on ws cs (a ∷ more) =
    let x : Crossed = call_on ws cs a in
    let later : Called = calls_on x.words x.cells more in
    record {
      got = record { asked = a; said = x.said } ∷ later.got;
      words = later.words;
      cells = later.cells;
    }

-- from 50 zero words, and 4n zero words for n cells
abbrev pub calls_from_zeros : ℕ → List Asked → Called
calls_from_zeros n asked = calls_on (fresh_words record_words) (fresh_words (4 * n)) asked

-- AS A HISTORY

-- the call that is asked for, if the kind names one
abbrev pub call_asked : Asked → Option Call
call_asked a = call_named a.kind a.place a.key a.value

-- a kind that names no call is left out
abbrev pub named_then : Option Call → List Call → List Call
named_then (Some call) calls = call ∷ calls
named_then None calls = calls

-- the calls asked for
unfoldable pub calls_asked : List Asked → List Call
calls_asked [] = []
calls_asked (a ∷ more) = named_then (call_asked a) (calls_asked more)

-- the call with what came back, as a pair; a kind that names no call is left out
abbrev pub pair_then : Option Call → Got → List Pair → List Pair
pair_then (Some call) g hs = record { call = call; said = g.said } ∷ hs
pair_then None g hs = hs

-- the pairs
unfoldable pub pairs_got : List Got → List Pair
pairs_got [] = []
pairs_got (g ∷ gs) = pair_then (call_asked g.asked) g (pairs_got gs)

-- what the host has in the end: the pairs, the record and the cells
abbrev pub run_of : Called → Run
run_of r = record { pairs = pairs_got r.got; store = store_of r.words r.cells }

-- WHAT IS PROMISED

-- where the kind names no call it got 12 with value 0
abbrev pub GotRecord : Got → Type 0
GotRecord g = call_asked g.asked ≡ None → g.said ≡ said_of (Err Refusal.Record)

-- any sequence of lane_calls from zero words tells, kinds that name no call left out, a history on a fresh board of n cells: each call got
-- what it gets there, and the last words are the record's and the cells'; so it has all that demand 3 says. Those left out got 12
pub record CallsTell (n : ℕ) (asked : List Asked) : Type 0 where
  pub each : map (λ (g : Got). g.asked) (calls_from_zeros n asked).got ≡ asked
  pub history : run_of (calls_from_zeros n asked) ≡ from_fresh n (calls_asked asked)
  pub words : (calls_from_zeros n asked).words ≡ words_of_record (from_fresh n (calls_asked asked)).store.board
  pub demand3 : Demand3 (run_of (calls_from_zeros n asked))
  pub others : (i : ℕ) → i < length asked → GotRecord (get_or (calls_from_zeros n asked).got i nothing_got)

-- for every number of cells from 1 to 1,024
abbrev pub CallsPromise : Type 0
CallsPromise = (n : ℕ) → 0 < n → n ≤ most_cells → (asked : List Asked) → CallsTell n asked

-- those left out are the kinds other than 1 to 6
abbrev pub NoKind : Type 0
NoKind = (a : Asked) → (call_asked a ≡ None) ↔ ((a.kind ≡ 0) ⊎ (6 < a.kind))

-- on any words they get 12 with value 0, and no word changes
abbrev pub NoKindNothing : Type 0
NoKindNothing = (ws cs : List ℕ) (a : Asked) → call_asked a ≡ None
    → call_on ws cs a ≡ record { said = said_of (Err Refusal.Record); words = ws; cells = cs }

-- every pair's answer is the verdict of the pairs before it; or it is FULL, at an update that needs a cell
abbrev pub CallsRight : Type 0
CallsRight = (n : ℕ) → 0 < n → n ≤ most_cells → (asked : List Asked) (before after : List Pair) (h : Pair)
    → pairs_got (calls_from_zeros n asked).got ≡ before ++ (h ∷ after) → Right (ledger before) h

-- and FULL is given exactly when as many different writes are still needed as there are cells
abbrev pub CallsFull : Type 0
CallsFull = (n : ℕ) → 0 < n → n ≤ most_cells → (asked : List Asked) (before after : List Pair) (h : Pair)
    → pairs_got (calls_from_zeros n asked).got ≡ before ++ (h ∷ after) → NeedsCell (ledger before) h.call
    → (h.said.number ≡ number_of (Err Refusal.Full)) ↔ Packed n (ledger before)
