-- From calls to bytes: what the desk and `serve` write are the answers of a history.
-- Assumes nothing.
use Rattle.std.specs.Prelude.{◌≡◌, Bool, true, cond, not, List, [], ℕ, ◌*◌, ◌≤◌, ◌<◌, eqb, ltb, length, get_or, take, drop, Some, None}
use Rattle.records.specs.declared.Call.{Call}
use Rattle.records.specs.Answers.{Answer, place_of}
use Rattle.records.specs.Format.{call_bytes, answer_bytes, call_at, answer_at, answer_record}
use Rattle.steps.specs.Record.{most_cells}
use Rattle.steps.specs.Store.{fresh_store}
use Rattle.steps.specs.Run.{Pair}
use Rattle.lanes.specs.Serve.{no_call, calls_in, whole_calls, tried, Serving, serve_into}
use Rattle.lanes.specs.Desk.{desk_of}
use Rattle.history.specs.History.{no_pair, from_fresh, Demand3}
use Rattle.history.specs.Verdict.{Answers}

-- A HISTORY IN BYTES

-- answer record i has the call's place byte and the pair's number and value
pub record AnswerIs (h : Pair) (output : List ℕ) (i : ℕ) : Type 0 where
  pub answer : Answer
  pub same : Answers h answer
  pub stands : answer_at output (answer_bytes * i) ≡ Some (record { place = place_of h.call; answer = answer })

-- bytes of calls and bytes of answers tell a history: record by record they are its calls and its answers; and behind the answers
-- stands RECORD with place 0 and value 0 once where bytes are left that are no call, and nothing otherwise
pub record Tells (hs : List Pair) (input output : List ℕ) (left : Bool) : Type 0 where
  pub called : (i : ℕ) → i < length hs → call_at input (call_bytes * i) ≡ Some (get_or hs i no_pair).call
  pub answered : (i : ℕ) → i < length hs → AnswerIs (get_or hs i no_pair) output i
  pub behind : drop (answer_bytes * length hs) output ≡ cond left (answer_record no_call) []

-- THE DESK

-- the calls of an input: those in its whole records, up to bytes that are no call
abbrev pub input_calls : List ℕ → List Call
input_calls input = calls_in (whole_calls input) input

-- the input has bytes that its calls do not take up: bytes that are no call, or a cut record
abbrev pub bytes_left : List ℕ → Bool
bytes_left input = not (eqb (call_bytes * length (input_calls input)) (length input))

-- an output tells the history of the input's calls on a fresh board of n cells, with RECORD behind where bytes are left. Behind the
-- last of the calls there stands no call, and the history has all that demand 3 says
pub record DeskTells (n : ℕ) (input output : List ℕ) : Type 0 where
  pub tells : Tells (from_fresh n (input_calls input)).pairs input output (bytes_left input)
  pub last : call_at input (call_bytes * length (input_calls input)) ≡ None
  pub demand3 : Demand3 (from_fresh n (input_calls input))

-- what the desk writes for any input tells its history on a fresh board of 1,024 cells
abbrev pub DeskPromise : Type 0
DeskPromise = (input : List ℕ) → DeskTells most_cells input (desk_of input)

-- and no other bytes do
abbrev pub DeskOnly : Type 0
DeskOnly = (input output : List ℕ) → DeskTells most_cells input output → output ≡ desk_of input

-- so a desk that says nothing tells nothing, but of no input
abbrev pub DeskSpeaks : Type 0
DeskSpeaks = (n : ℕ) (input : List ℕ) → 0 < length input → DeskTells n input [] → ⊥

-- SERVE

-- the calls tried, with room for so many bytes of answers: those in the whole records that have room for an answer, up to bytes that
-- are no call
abbrev pub tried_calls : List ℕ → ℕ → List Call
tried_calls input room = calls_in (tried input room) input

-- bytes that are no call were met: there are fewer calls than records tried
abbrev pub met_no_call : List ℕ → ℕ → Bool
met_no_call input room = ltb (length (tried_calls input room)) (tried input room)

-- what `serve` from a fresh board of n cells puts into lent bytes tells the history of the calls tried, with RECORD behind where bytes
-- that are no call were met; those calls are what it takes, and it leaves the store that they leave
pub record ServeTells (n : ℕ) (input lent : List ℕ) (served : Serving) : Type 0 where
  pub tells : Tells (from_fresh n (tried_calls input (length lent))).pairs input (take served.written served.answers)
      (met_no_call input (length lent))
  pub last : met_no_call input (length lent) ≡ true
      → call_at input (call_bytes * length (tried_calls input (length lent))) ≡ None
  pub taken : served.taken ≡ call_bytes * length (tried_calls input (length lent))
  pub store : served.store ≡ (from_fresh n (tried_calls input (length lent))).store
  pub demand3 : Demand3 (from_fresh n (tried_calls input (length lent)))

-- for every number of cells from 1 to 1,024, any bytes of calls and any lent bytes for the answers
abbrev pub ServePromise : Type 0
ServePromise = (n : ℕ) → 0 < n → n ≤ most_cells → (input lent : List ℕ)
    → ServeTells n input lent (serve_into (fresh_store n) input lent)

-- so what writes nothing tells nothing, where there are bytes for a call and for an answer
abbrev pub ServeSpeaks : Type 0
ServeSpeaks = (n : ℕ) (input lent : List ℕ) (served : Serving) → call_bytes ≤ length input → answer_bytes ≤ length lent
    → served.written ≡ 0 → ServeTells n input lent served → ⊥
