-- The axioms of document 001's Table 1 over the same ledger: snapshot isolation, in real time.
-- Assumes nothing.
use Rattle.std.specs.Prelude.{◌≡◌, ◌↔◌, ◌⊎◌, cond, List, [], ◌∷◌, ◌++◌, ℕ, ◌≤◌, ◌<◌, eqb, length}
use Rattle.std.proofs.Math.Option.{Option, none, some}
use Rattle.records.specs.declared.Call.{Call}
use Rattle.steps.specs.Record.{most_cells}
use Rattle.steps.specs.Run.{Pair}
use Rattle.history.specs.History.{Event, read, write, last_write, Ledger, done_at, ledger, from_fresh}

-- TRANSACTIONS

-- a dedicated transaction that writes the initial value, 0, of all keys; and the committed ones, in commit order
pub data Tx : Type 0 where
  initial : Tx
  nth : ℕ → Tx

-- the transaction is one of the history
abbrev pub In : Ledger → Tx → Type 0
In L initial = Unit {0}
In L (nth j) = j < length L.past

-- its events in program order, the last first; a read is there only if it was answered
abbrev pub events_of : Ledger → Tx → List Event
events_of L initial = []
events_of L (nth j) = (done_at L j).did

-- T writes to the key, and the last value written is v
abbrev pub Writes : Ledger → Tx → ℕ → ℕ → Type 0
Writes L initial k v = v ≡ 0
Writes L (nth j) k v = last_write (done_at L j).did k ≡ some v

-- T is one that writes to the key
abbrev pub WritesTo : Ledger → Tx → ℕ → Type 0
WritesTo L T k = (v : ℕ) × Writes L T k v

-- the value of the last event on a key, whether it wrote or read
abbrev pub last_on : List Event → ℕ → Option ℕ
last_on [] k = none
last_on (read j v ∷ es) k = cond (eqb k j) (some v) (last_on es k)
last_on (write j v ∷ es) k = cond (eqb k j) (some v) (last_on es k)

-- T reads from the key before writing to it, and v is the value returned by the first such read
pub record ReadsFirst (L : Ledger) (T : Tx) (k v : ℕ) : Type 0 where
  pub later : List Event
  pub earlier : List Event
  pub event : events_of L T ≡ later ++ (read k v ∷ earlier)
  pub first : last_on earlier k ≡ none

-- RELATIONS

-- visibility: the other had committed when this one started
abbrev pub VIS : Ledger → Tx → Tx → Type 0
VIS L S initial = ⊥
VIS L initial (nth j) = Unit {0}
VIS L (nth i) (nth j) = i < (done_at L j).seen

-- arbitration: commit order
abbrev pub AR : Ledger → Tx → Tx → Type 0
AR L S initial = ⊥
AR L initial (nth j) = Unit {0}
AR L (nth i) (nth j) = i < j

-- returns before: S committed before T started, by positions in the history
abbrev pub RB : Ledger → Tx → Tx → Type 0
RB L S initial = ⊥
RB L initial (nth j) = Unit {0}
RB L (nth i) (nth j) = (done_at L i).ended < (done_at L j).began

-- commits before: S committed before T did, by positions in the history
abbrev pub CB : Ledger → Tx → Tx → Type 0
CB L S initial = ⊥
CB L initial (nth j) = Unit {0}
CB L (nth i) (nth j) = (done_at L i).ended < (done_at L j).ended

-- a strict partial order is an irreflexive and transitive relation
pub record StrictPartial (L : Ledger) (R : Ledger → Tx → Tx → Type 0) : Type 0 where
  pub irreflexive : (T : Tx) → In L T → R L T T → ⊥
  pub transitive : (S T U : Tx) → In L S → In L T → In L U → R L S T → R L T U → R L S U

-- Definition 5: visibility is a strict partial order, arbitration is a strict total order, and visibility is within it
pub record Execution (L : Ledger) : Type 0 where
  pub vis : StrictPartial L VIS
  pub ar : StrictPartial L AR
  pub total : (S T : Tx) → In L S → In L T → (S ≡ T → ⊥) → AR L S T ⊎ AR L T S
  pub within : (S T : Tx) → In L S → In L T → VIS L S T → AR L S T

-- THE AXIOMS

-- within a transaction, a read from a key returns the same value as the last write to or read from this key in the transaction
abbrev pub Int : Ledger → Type 0
Int L = (T : Tx) → In L T → (later earlier : List Event) (k v u : ℕ) → events_of L T ≡ later ++ (read k v ∷ earlier)
    → last_on earlier k ≡ some u → v ≡ u

-- S is the last in AR among the transactions that precede T in terms of VIS and write this key
pub record Latest (L : Ledger) (T : Tx) (k : ℕ) (S : Tx) : Type 0 where
  pub inside : In L S
  pub seen : VIS L S T
  pub last : (R : Tx) → In L R → VIS L R T → WritesTo L R k → (R ≡ S) ⊎ AR L R S

-- an external read in a transaction T from a key returns the value written by that last transaction
abbrev pub Ext : Ledger → Type 0
Ext L = (T : Tx) → In L T → (k v : ℕ) → ReadsFirst L T k v → (S : Tx) × Latest L T k S × Writes L S k v

-- if the snapshot taken by a transaction T includes a transaction S, then it also includes all that committed before S in terms of AR
abbrev pub Prefix : Ledger → Type 0
Prefix L = (R S T : Tx) → In L R → In L S → In L T → AR L R S → VIS L S T → VIS L R T

-- of two transactions that write on the same key, one sees the other
abbrev pub NoConflict : Ledger → Type 0
NoConflict L = (S T : Tx) → In L S → In L T → (S ≡ T → ⊥) → (k : ℕ) → WritesTo L S k → WritesTo L T k → VIS L S T ⊎ VIS L T S

-- VIS = RB: a transaction sees just those that had committed, in real time, when it started
abbrev pub RealtimeSnapshot : Ledger → Type 0
RealtimeSnapshot L = (S T : Tx) → In L S → In L T → VIS L S T ↔ RB L S T

-- CB within AR: the commit order is that of real time
abbrev pub CommitBefore : Ledger → Type 0
CommitBefore L = (S T : Tx) → In L S → In L T → CB L S T → AR L S T

-- Definitions 6 and 10: snapshot isolation, and with the last two strong snapshot isolation
pub record SnapshotIsolation (L : Ledger) : Type 0 where
  pub execution : Execution L
  pub int : Int L
  pub ext : Ext L
  pub prefix : Prefix L
  pub no_conflict : NoConflict L
  pub realtime : RealtimeSnapshot L
  pub commit_before : CommitBefore L

-- those that any pairs meet, whatever answered them: they say how a ledger is made. The others, Int, Ext and NoConflict, bind the store
pub record AsMade (L : Ledger) : Type 0 where
  pub execution : Execution L
  pub prefix : Prefix L
  pub realtime : RealtimeSnapshot L
  pub commit_before : CommitBefore L

-- of the ledger of any pairs
abbrev pub AnyPairs : Type 0
AnyPairs = (hs : List Pair) → AsMade (ledger hs)

-- for every number of cells from 1 to 1,024 and every list of calls
abbrev pub Isolated : Type 0
Isolated = (n : ℕ) → 0 < n → n ≤ most_cells → (calls : List Call) → SnapshotIsolation (ledger (from_fresh n calls).pairs)
