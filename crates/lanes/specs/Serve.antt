-- Call records answered one after another.
-- Assumes nothing.
use Rattle.std.specs.Prelude.{ℕ, zero, suc, ◌*◌, ◌/◌, min, cond, Option, Some, None, Err}
use Rattle.std.specs.Prelude.{List, [], ◌∷◌, ◌++◌, map, ltb, leb, length, drop}
use Rattle.records.specs.declared.Refusal.{Refusal}
use Rattle.records.specs.declared.Call.{Call}
use Rattle.records.specs.declared.Reply.{Reply}
use Rattle.records.specs.Answers.{place_of}
use Rattle.records.specs.Format.{call_bytes, answer_bytes, answer_of, answer_record, call_at, put_at}
use Rattle.steps.specs.Store.{Store, lent}
use Rattle.steps.specs.Run.{Pair, Run, run}
use Rattle.lanes.specs.declared.Stop.{Stop}
use Rattle.lanes.specs.declared.Served.{Served}

-- the calls behind one that was read; none from bytes that are no call
abbrev pub read_then : Option Call → List Call → List Call
read_then (Some call) calls = call ∷ calls
read_then None calls = []

-- the calls in so many records, up to bytes that are no call
unfoldable pub calls_in : ℕ → List ℕ → List Call
calls_in zero bytes = []
calls_in (suc n) bytes = read_then (call_at bytes 0) (calls_in n (drop call_bytes bytes))

-- one answer each, with the call's place byte
abbrev pub reply_to : Pair → Reply
reply_to h = record { place = place_of h.call; answer = answer_of h.said.number h.said.value }

-- the answers of a run of calls
abbrev pub replies_of : Run → List Reply
replies_of r = map reply_to r.pairs

-- RECORD with place 0 and value 0
abbrev pub no_call : Reply
no_call = record { place = 0; answer = Err Refusal.Record }

-- the bytes of answers
unfoldable pub records_of : List Reply → List ℕ
records_of [] = []
records_of (r ∷ rs) = answer_record r ++ records_of rs

-- the whole records in bytes of calls
abbrev pub whole_calls : List ℕ → ℕ
whole_calls bytes = length bytes / call_bytes

-- the records that are read: whole ones, each with room for its answer
abbrev pub tried : List ℕ → ℕ → ℕ
tried bytes room = min (whole_calls bytes) (room / answer_bytes)

-- after fewer calls than records that were read: RECORD, with place 0 and value 0
abbrev pub refused : ℕ → ℕ → List ℕ
refused calls records = cond (ltb calls records) (answer_record no_call) []

-- why it stopped: bytes that are no call; otherwise the end of the whole records, or no room for one more answer
abbrev pub stop_of : ℕ → ℕ → ℕ → Stop
stop_of calls records whole = cond (ltb calls records) Stop.Record (cond (leb whole records) Stop.End Stop.Room)

-- what serving comes to: the store, the bytes of the answers, how many bytes of calls were taken, and why it stopped
pub record Service : Type 0 where
  pub store : Store
  pub answers : List ℕ
  pub taken : ℕ
  pub stop : Stop

-- serving the first so many records: it answers record by record; at bytes that are no call it writes RECORD, and does not take them
unfoldable pub serve_first : ℕ → Store → List ℕ → Service
serve_first records st bytes =
    let calls : List Call = calls_in records bytes in
    let ran : Run = run st calls in
    record {
      store = ran.store;
      answers = records_of (replies_of ran) ++ refused (length calls) records;
      taken = call_bytes * length calls;
      stop = stop_of (length calls) records (whole_calls bytes);
    }

-- serving bytes of calls, with room for so many bytes of answers: up to the end of the whole records, to bytes that are no call, or
-- until no room is left for one more answer
unfoldable pub serve_of : Store → List ℕ → ℕ → Service
serve_of st bytes room = serve_first (tried bytes room) st bytes

-- what a function of this crate handed back, with the lent words and bytes as it left them
pub record Serving : Type 0 where
  pub store : Store
  pub answers : List ℕ
  pub taken : ℕ
  pub written : ℕ
  pub stop : Stop

-- what `serve` handed back, as such a record
abbrev pub serving : Served → List ℕ → List ℕ → Serving
serving r ws answers =
    record { store = lent r.board ws; answers = answers; taken = r.taken; written = r.written; stop = r.stop }

-- serving into lent bytes: the answers from the front, the bytes past them stay
abbrev pub into_bytes : List ℕ → Service → Serving
into_bytes answers s =
    record {
      store = s.store;
      answers = put_at answers 0 s.answers;
      taken = s.taken;
      written = length s.answers;
      stop = s.stop;
    }

-- what serving bytes of calls into lent bytes comes to
abbrev pub serve_into : Store → List ℕ → List ℕ → Serving
serve_into st bytes answers = into_bytes answers (serve_of st bytes (length answers))
