-- `lane_serve` again and again, with any bytes, any room and any cut between: what the host reads in the answers, as a history.
-- Assumes nothing.
use Rattle.std.specs.Prelude.{◌≡◌, true, List, [], ◌∷◌, ◌++◌, ℕ, ◌*◌, ◌≤◌, ◌<◌, length, take, drop, None}
use Rattle.records.specs.declared.Call.{Call}
use Rattle.records.specs.Format.{call_bytes, call_at}
use Rattle.steps.specs.Record.{most_cells, fresh_words}
use Rattle.steps.specs.Run.{Pair, Run}
use Rattle.history.specs.History.{from_fresh, Demand3}
use Rattle.history.specs.Bytes.{Tells, tried_calls, met_no_call}
use Rattle.lane_c.specs.Words.{record_words, words_of_record}
use Rattle.lane_c.specs.Call.{store_of}
use Rattle.lane_c.specs.Serve.{why_board, Handed, lane_serve}

-- WHAT A HOST DOES

-- what it lends to lane_serve: bytes of calls, and bytes for the answers
pub record Lent : Type 0 where
  pub calls : List ℕ
  pub answers : List ℕ

-- lane_serve with these, on the words of a record and of cells
abbrev pub serve_on : List ℕ → List ℕ → Lent → Handed
serve_on ws cs l = lane_serve ws cs l.calls l.answers

-- the words of a record and of cells
pub record Held : Type 0 where
  pub words : List ℕ
  pub cells : List ℕ

-- one lane_serve after the other, the words passed on untouched between them; whatever the host lends next
unfoldable pub serves_on : List ℕ → List ℕ → List Lent → Held
serves_on ws cs [] = record { words = ws; cells = cs }
serves_on ws cs (l ∷ ls) = let x : Handed = serve_on ws cs l in serves_on x.words x.cells ls

-- from 50 zero words, and 4n zero words for n cells
abbrev pub serves_from_zeros : ℕ → List Lent → Held
serves_from_zeros n lent = serves_on (fresh_words record_words) (fresh_words (4 * n)) lent

-- AS A HISTORY

-- the calls tried by one lane_serve
abbrev pub calls_tried : Lent → List Call
calls_tried l = tried_calls l.calls (length l.answers)

-- by all of them
unfoldable pub calls_lent : List Lent → List Call
calls_lent [] = []
calls_lent (l ∷ ls) = calls_tried l ++ calls_lent ls

-- their history on a fresh board of n cells
abbrev pub history_of : ℕ → List Lent → Run
history_of n lent = from_fresh n (calls_lent lent)

-- its part that falls to one lane_serve, behind others
abbrev pub part_of : List Pair → List Lent → Lent → List Pair
part_of hs before l = take (length (calls_tried l)) (drop (length (calls_lent before)) hs)

-- what one lane_serve handed back, behind others, tells its part of the history: in the answers written, with RECORD behind where it met
-- bytes that are no call. It left the lent bytes past those, it took the bytes of those calls, and it never found the words to be no record
pub record ServedTells (hs : List Pair) (before : List Lent) (l : Lent) (x : Handed) : Type 0 where
  pub tells : Tells (part_of hs before l) l.calls (take x.written x.answers) (met_no_call l.calls (length l.answers))
  pub last : met_no_call l.calls (length l.answers) ≡ true
      → call_at l.calls (call_bytes * length (calls_tried l)) ≡ None
  pub kept : drop x.written x.answers ≡ drop x.written l.answers
  pub taken : x.taken ≡ call_bytes * length (calls_tried l)
  pub board : x.why ≡ why_board → ⊥

-- WHAT IS PROMISED

-- any sequence of lane_serves from zero words tells the history of all the calls tried, in their order, each in the answers that it wrote;
-- the last words are the record's and the cells'; so it has all that demand 3 says
pub record ServesTell (n : ℕ) (lent : List Lent) : Type 0 where
  pub told : (before after : List Lent) (l : Lent) → lent ≡ before ++ (l ∷ after)
      → ServedTells (history_of n lent).pairs before l (serve_on (serves_from_zeros n before).words (serves_from_zeros n before).cells l)
  pub words : (serves_from_zeros n lent).words ≡ words_of_record (history_of n lent).store.board
  pub cells : (serves_from_zeros n lent).cells ≡ (history_of n lent).store.words
  pub demand3 : Demand3 (record {
    pairs = (history_of n lent).pairs;
    store = store_of (serves_from_zeros n lent).words (serves_from_zeros n lent).cells;
  })

-- for every number of cells from 1 to 1,024
abbrev pub ServesPromise : Type 0
ServesPromise = (n : ℕ) → 0 < n → n ≤ most_cells → (lent : List Lent) → ServesTell n lent
