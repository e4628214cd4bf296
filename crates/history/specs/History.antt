-- What happened at a board, told from the pairs of call and answer alone; and what demand 3 says of it.
-- No cell is looked at, and no number that the store hands out: only the last board is, in `holds`.
-- Assumes nothing.
use Rattle.std.specs.Prelude.{◌≡◌, ◌↔◌, ◌⊎◌, Bool, cond, ◌&&◌, List, [], ◌∷◌, ◌++◌, ℕ, ◌+◌, ◌≤◌, ◌<◌, eqb, length, get_or, take, Ok, Err}
use Rattle.std.proofs.Math.Option
use Rattle.std.proofs.Math.Option.{Option, none, some}
use Rattle.records.specs.declared.Call.{Call}
use Rattle.records.specs.declared.Refusal.{Refusal}
use Rattle.records.specs.Answers.{Answer, number_of}
use Rattle.cells.specs.declared.Cell.{Cell}
use Rattle.cells.specs.Cells.{no_cell, of_key, committed}
use Rattle.cells.specs.Rules.{newest}
use Rattle.steps.specs.declared.State.{State}
use Rattle.steps.specs.Record.{all_places, all_keys, most_cells}
use Rattle.steps.specs.Store.{Store, Said, said_of, cells_in, fresh_store}
use Rattle.steps.specs.Run.{Pair, Run, run}

-- A PAIR

-- the call, answered with the number and value that document 01's table has for the answer
abbrev pub answered_by : Call → Answer → Pair
answered_by c a = record { call = c; said = said_of a }

-- what stands where a history has no pair
abbrev pub no_pair : Pair
no_pair = answered_by (Call.Start 0) (Ok 0)

-- 0 OK: done
abbrev pub is_ok : ℕ → Bool
is_ok n = eqb n 0

-- 9 CONFLICT
abbrev pub is_conflict : ℕ → Bool
is_conflict n = eqb n (number_of (Err Refusal.Conflict))

-- A TRANSACTION

-- an accepted read or update: the key, and the value read or written
pub data Event : Type 0 where
  read : ℕ → ℕ → Event
  write : ℕ → ℕ → Event

-- the last value written to a key, if there is one; the events stand with the last one first
abbrev pub last_write : List Event → ℕ → Option ℕ
last_write [] k = none
last_write (read j v ∷ es) k = last_write es k
last_write (write j v ∷ es) k = cond (eqb k j) (some v) (last_write es k)

-- the events wrote the key
abbrev pub Wrote : List Event → ℕ → Type 0
Wrote es k = (v : ℕ) × (last_write es k ≡ some v)

-- the transaction at a place: its state, how many calls were answered before its start, how many transactions had committed when it
-- started, and what it did, the last first
pub record Transaction : Type 0 where
  pub state : State
  pub began : ℕ
  pub seen : ℕ
  pub did : List Event

-- a committed transaction; `ended` is how many calls were answered before its commit
pub record Done : Type 0 where
  pub began : ℕ
  pub ended : ℕ
  pub seen : ℕ
  pub did : List Event

-- an idle place
abbrev pub nobody : Transaction
nobody = record { state = State.Idle; began = 0; seen = 0; did = [] }

-- what stands where no transaction has committed
abbrev pub nothing : Done
nothing = record { began = 0; ended = 0; seen = 0; did = [] }

-- THE LEDGER

-- how many calls were answered, how many starts were accepted, the transaction at each place, and the committed ones in commit order
pub record Ledger : Type 0 where
  pub calls : ℕ
  pub starts : ℕ
  pub at : ℕ → Transaction
  pub past : List Done

-- before the first call
abbrev pub new_ledger : Ledger
new_ledger = record { calls = 0; starts = 0; at = λ p. nobody; past = [] }

-- the committed transaction m, the first being 0
abbrev pub done_at : Ledger → ℕ → Done
done_at L m = get_or L.past m nothing

-- another transaction at place p
abbrev pub put : (ℕ → Transaction) → ℕ → Transaction → ℕ → Transaction
put f p r q = cond (eqb q p) r (f q)

-- one more call: the transactions at the places and the committed ones after it
abbrev pub tick : Ledger → (ℕ → Transaction) → List Done → Ledger
tick L f ds = record { calls = L.calls + 1; starts = L.starts; at = f; past = ds }

-- one more call, a start
abbrev pub opened : Ledger → (ℕ → Transaction) → Ledger
opened L f = record { calls = L.calls + 1; starts = L.starts + 1; at = f; past = L.past }

-- the transaction that a start begins
abbrev pub begun : Ledger → Transaction
begun L = record { state = State.Open; began = L.calls; seen = length L.past; did = [] }

-- a transaction in another state
abbrev pub turned : State → Transaction → Transaction
turned s r = record { state = s; began = r.began; seen = r.seen; did = r.did }

-- a transaction that did one thing more
abbrev pub doing : Event → Transaction → Transaction
doing e r = record { state = r.state; began = r.began; seen = r.seen; did = e ∷ r.did }

-- a transaction that commits
abbrev pub ended : Ledger → Transaction → Done
ended L r = record { began = r.began; ended = L.calls; seen = r.seen; did = r.did }

-- an accepted call, and what was said to it
unfoldable pub accept : Ledger → Call → Said → Ledger
accept L (Call.Start p) s = opened L (put L.at p (begun L))
accept L (Call.Read p k) s = tick L (put L.at p (doing (read k s.value) (L.at p))) L.past
accept L (Call.Update p k new) s = tick L (put L.at p (doing (write k new) (L.at p))) L.past
accept L (Call.Prepare p) s = tick L (put L.at p (turned State.Prepared (L.at p))) L.past
accept L (Call.Commit p) s = tick L (put L.at p nobody) (L.past ++ (ended L (L.at p) ∷ []))
accept L (Call.Rollback p) s = tick L (put L.at p nobody) L.past

-- a refused call leaves no trace; only CONFLICT, which an update meets, sets one state to spoiled
unfoldable pub refuse : Ledger → Call → ℕ → Ledger
refuse L (Call.Start p) n = tick L L.at L.past
refuse L (Call.Read p k) n = tick L L.at L.past
refuse L (Call.Update p k new) n =
    tick L (cond (is_conflict n) (put L.at p (turned State.Spoiled (L.at p))) L.at) L.past
refuse L (Call.Prepare p) n = tick L L.at L.past
refuse L (Call.Commit p) n = tick L L.at L.past
refuse L (Call.Rollback p) n = tick L L.at L.past

-- one more pair
abbrev pub note : Ledger → Pair → Ledger
note L h = cond (is_ok h.said.number) (accept L h.call h.said) (refuse L h.call h.said.number)

-- the pairs one after the other
unfoldable pub ledger_from : Ledger → List Pair → Ledger
ledger_from L [] = L
ledger_from L (h ∷ hs) = ledger_from (note L h) hs

-- the ledger of a history
abbrev pub ledger : List Pair → Ledger
ledger hs = ledger_from new_ledger hs

-- WHAT COMMITTED TRANSACTIONS LEAVE

-- what a store holds for a key once these ran on it, one after the other
unfoldable pub leave_from : (ℕ → ℕ) → List Done → ℕ → ℕ
leave_from s [] k = s k
leave_from s (d ∷ ds) k = leave_from (λ j. Option.get_or (last_write d.did j) (s j)) ds k

-- a key never written reads as 0
abbrev pub leave : List Done → ℕ → ℕ
leave ds k = leave_from (λ j. 0) ds k

-- A RUN

-- take a fresh board of n cells and any sequence of calls, the board passed on untouched between them
abbrev pub from_fresh : ℕ → List Call → Run
from_fresh n cs = run (fresh_store n) cs

-- DEMAND 3

-- that transaction's own last write to the key, or else what the first n committed transactions leave when run one after the other, n
-- being how many had committed when it started
abbrev pub sees : Ledger → ℕ → ℕ → ℕ
sees L p k = Option.get_or (last_write (L.at p).did k) (leave (take (L.at p).seen L.past) k)

-- each read answered shows what it sees
abbrev pub ReadsRight : List Pair → Type 0
ReadsRight hs = (before after : List Pair) (p k v : ℕ) → hs ≡ before ++ (answered_by (Call.Read p k) (Ok v) ∷ after)
    → v ≡ sees (ledger before) p k

-- two committed transactions overlapped if each started before the other committed
abbrev pub Overlapped : Done → Done → Type 0
Overlapped c d = (c.began < d.ended) × (d.began < c.ended)

-- no two committed transactions that overlapped wrote the same key
abbrev pub OverlappedApart : List Pair → Type 0
OverlappedApart hs = (i j : ℕ) → i < j → j < length (ledger hs).past → Overlapped (done_at (ledger hs) i) (done_at (ledger hs) j)
    → (k : ℕ) → Wrote (done_at (ledger hs) i).did k → Wrote (done_at (ledger hs) j).did k → ⊥

-- an update that gets as far as the conflict test, by the history and not by the answer: place and key in range, an open transaction
-- that has not written the key
pub record Reaches (L : Ledger) (p k : ℕ) : Type 0 where
  pub place : p < all_places
  pub key : k < all_keys
  pub state : (L.at p).state ≡ State.Open
  pub first : last_write (L.at p).did k ≡ none

-- the key carries another unfinished transaction's write or one committed since the start
abbrev pub Contested : Ledger → ℕ → ℕ → Type 0
Contested L p k =
    ((q : ℕ) × (q < all_places) × (q ≡ p → ⊥) × Wrote (L.at q).did k)
    ⊎ ((m : ℕ) × ((L.at p).seen ≤ m) × (m < length L.past) × Wrote (done_at L m).did k)

-- an update that gets as far as the conflict test is refused for conflict exactly when the key is contested
abbrev pub ConflictsExact : List Pair → Type 0
ConflictsExact hs = (before after : List Pair) (p k new : ℕ) (s : Said)
    → hs ≡ before ++ (record { call = Call.Update p k new; said = s } ∷ after) → Reaches (ledger before) p k
    → (s.number ≡ number_of (Err Refusal.Conflict)) ↔ Contested (ledger before) p k

-- a committed cell of the key
abbrev pub version_of : ℕ → Cell → Bool
version_of k c = of_key k c && committed c

-- what a board holds for a key: the value in its committed cell with the greatest commit number; if there is none, 0
abbrev pub holds : Store → ℕ → ℕ
holds st k = (newest (version_of k) no_cell (cells_in st)).value

-- the last board holds, for each key, what the committed ones leave in commit order
abbrev pub LastHolds : List Pair → Store → Type 0
LastHolds hs st = (k : ℕ) → holds st k ≡ leave (ledger hs).past k

-- all four sentences, of what a sequence of calls comes to
pub record Demand3 (r : Run) : Type 0 where
  pub reads : ReadsRight r.pairs
  pub apart : OverlappedApart r.pairs
  pub conflicts : ConflictsExact r.pairs
  pub final : LastHolds r.pairs r.store

-- for every number of cells from 1 to 1,024 and every list of calls
abbrev pub Statement : Type 0
Statement = (n : ℕ) → 0 < n → n ≤ most_cells → (calls : List Call) → Demand3 (from_fresh n calls)
