-- What comes back: the number and the value of each answer, as document 01's table has them; and what a call names.
-- Assumes nothing.
use Rattle.std.specs.Prelude.{ℕ, List, codes, Option, Some, None, Result, Ok, Err}
use Rattle.records.specs.declared.Call.{Call}
use Rattle.records.specs.declared.Refusal.{Refusal}

-- what comes back: OK with a value, or a refusal
abbrev pub Answer : Type 0
Answer = Result ℕ Refusal

-- No. and name: 0 OK done, 1 BOARD, 2 PLACE, 3 BUSY, 4 IDLE, 5 WORN, 6 SPOILED, 7 HELD, 8 KEY, 9 CONFLICT, 10 PREPARED, 11 FULL, 12 RECORD
abbrev pub number_of : Answer → ℕ
number_of (Ok v) = 0
number_of (Err Refusal.Board) = 1
number_of (Err Refusal.Place) = 2
number_of (Err Refusal.Busy) = 3
number_of (Err Refusal.Idle) = 4
number_of (Err Refusal.Worn) = 5
number_of (Err Refusal.Spoiled) = 6
number_of (Err Refusal.Held) = 7
number_of (Err Refusal.Key) = 8
number_of (Err Refusal.Conflict) = 9
number_of (Err Refusal.Prepared) = 10
number_of (Err Refusal.Full) = 11
number_of (Err Refusal.Record) = 12

-- the name of a refusal
abbrev pub name_of : Refusal → List ℕ
name_of Refusal.Board = codes "BOARD"
name_of Refusal.Place = codes "PLACE"
name_of Refusal.Busy = codes "BUSY"
name_of Refusal.Idle = codes "IDLE"
name_of Refusal.Worn = codes "WORN"
name_of Refusal.Spoiled = codes "SPOILED"
name_of Refusal.Held = codes "HELD"
name_of Refusal.Key = codes "KEY"
name_of Refusal.Conflict = codes "CONFLICT"
name_of Refusal.Prepared = codes "PREPARED"
name_of Refusal.Full = codes "FULL"
name_of Refusal.Record = codes "RECORD"

-- every refusal returns value 0
abbrev pub value_of : Answer → ℕ
value_of (Ok v) = v
value_of (Err Refusal.Board) = 0
value_of (Err Refusal.Place) = 0
value_of (Err Refusal.Busy) = 0
value_of (Err Refusal.Idle) = 0
value_of (Err Refusal.Worn) = 0
value_of (Err Refusal.Spoiled) = 0
value_of (Err Refusal.Held) = 0
value_of (Err Refusal.Key) = 0
value_of (Err Refusal.Conflict) = 0
value_of (Err Refusal.Prepared) = 0
value_of (Err Refusal.Full) = 0
value_of (Err Refusal.Record) = 0

-- reading answers 0 OK, and what was read is beside it; 12 RECORD for bytes that are no record
abbrev pub read_number : {A : Type 0} → Option A → ℕ
read_number (Some found) = 0
read_number None = 12

-- with value 0, since reading names no other
abbrev pub read_value : {A : Type 0} → Option A → ℕ
read_value (Some found) = 0
read_value None = 0

-- the place that a call names
abbrev pub place_of : Call → ℕ
place_of (Call.Start place) = place
place_of (Call.Read place key) = place
place_of (Call.Update place key value) = place
place_of (Call.Prepare place) = place
place_of (Call.Commit place) = place
place_of (Call.Rollback place) = place
