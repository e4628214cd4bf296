-- What comes back: each refusal of each state, and the last start, place and key.
-- Assumes nothing.
use Rattle.std.specs.Prelude.{ℕ, List, [], ◌∷◌, ◌++◌, map}
use Rattle.records.specs.declared.Call.{Call}
use Rattle.steps.specs.declared.Board.{Board}
use Rattle.steps.specs.Store.{Said, lent}
use Rattle.steps.specs.Step.{step}
use Rattle.edges.specs.Names.{Agree, BOARD, PLACE, BUSY, IDLE, WORN, SPOILED, HELD, KEY, CONFLICT, PREPARED, FULL, opened, spoiled, prepared}
use Rattle.edges.specs.Names.{counts, zeros, four}

infix 70 ◌returns◌
infix 70 ◌refused◌
-- a call, and the number and the value that are to come back
pub record Asked : Type 0 where
  pub call : Call
  pub said : Said

-- 0 OK: done, with this value
abbrev pub ◌returns◌ : Call → ℕ → Asked
◌returns◌ c v = record { call = c; said = record { number = 0; value = v } }

-- refused with this number; every refusal returns value 0
abbrev pub ◌refused◌ : Call → ℕ → Asked
◌refused◌ c n = record { call = c; said = record { number = n; value = 0 } }

-- a board, and calls each of which is made on just that board
pub record Block : Type 0 where
  pub board : Board
  pub words : List ℕ
  pub asked : List Asked

-- on a record and lent words, these calls
abbrev pub on : Board → List ℕ → List Asked → Block
on b ws asked = record { board = b; words = ws; asked = asked }

-- the number and the value that come back for each call of a block
abbrev pub comes_back : Block → List Said
comes_back k = map (λ (a : Asked). (step (lent k.board k.words) a.call).said) k.asked

-- those that document 01 says
abbrev pub said_back : Block → List Said
said_back k = map (λ (a : Asked). a.said) k.asked

-- WORN: start with the start count at 4,000,000,000
abbrev pub last_starts : List Block
last_starts =
    on (counts 3_999_999_999 0 []) (zeros 16) (Call.Start 0 returns 4_000_000_000 ∷ [])
    ∷ on (counts 4_000_000_000 0 []) (zeros 16) (Call.Start 0 refused WORN ∷ [])
    ∷ on (counts 4_000_000_001 0 []) (zeros 16) (Call.Start 0 refused BOARD ∷ [])
    ∷ []

-- the last transaction of all takes its steps like any other
abbrev pub last_of_all : List Asked
last_of_all =
    Call.Read 0 7 returns 0
    ∷ Call.Update 0 7 12 returns 0
    ∷ Call.Prepare 0 returns 0
    ∷ Call.Commit 0 returns 4_000_000_000
    ∷ Call.Rollback 0 returns 0
    ∷ []

-- three transactions: place 0 is open, place 1 spoiled, place 2 prepared; the other places are idle
abbrev pub three : Board
three = counts 3 0 (opened 1 0 ∷ spoiled 2 0 ∷ prepared 3 0 ∷ [])

-- IDLE: another call at an idle place
abbrev pub at_idle : List Asked
at_idle =
    Call.Start 3 returns 4
    ∷ Call.Read 3 7 refused IDLE
    ∷ Call.Update 3 7 12 refused IDLE
    ∷ Call.Prepare 3 refused IDLE
    ∷ Call.Commit 3 refused IDLE
    ∷ Call.Rollback 3 refused IDLE
    ∷ []

-- BUSY: start at a place not idle; to an open transaction every other call is done
abbrev pub at_open : List Asked
at_open =
    Call.Start 0 refused BUSY
    ∷ Call.Read 0 7 returns 0
    ∷ Call.Update 0 7 12 returns 0
    ∷ Call.Prepare 0 returns 0
    ∷ Call.Commit 0 returns 1
    ∷ Call.Rollback 0 returns 0
    ∷ []

-- SPOILED: read, update, prepare or commit on a spoiled transaction; a rollback is accepted there, nothing else is
abbrev pub at_spoiled : List Asked
at_spoiled =
    Call.Start 1 refused BUSY
    ∷ Call.Read 1 7 refused SPOILED
    ∷ Call.Update 1 7 12 refused SPOILED
    ∷ Call.Prepare 1 refused SPOILED
    ∷ Call.Commit 1 refused SPOILED
    ∷ Call.Rollback 1 returns 0
    ∷ []

-- HELD: read, update or prepare on a prepared one; it may commit or roll back
abbrev pub at_prepared : List Asked
at_prepared =
    Call.Start 2 refused BUSY
    ∷ Call.Read 2 7 refused HELD
    ∷ Call.Update 2 7 12 refused HELD
    ∷ Call.Prepare 2 refused HELD
    ∷ Call.Commit 2 returns 1
    ∷ Call.Rollback 2 returns 0
    ∷ []

-- PLACE: place above 15
abbrev pub places_up_to15 : List Asked
places_up_to15 =
    Call.Start 15 returns 4
    ∷ Call.Start 16 refused PLACE
    ∷ Call.Read 16 7 refused PLACE
    ∷ Call.Update 16 7 12 refused PLACE
    ∷ Call.Prepare 16 refused PLACE
    ∷ Call.Commit 16 refused PLACE
    ∷ Call.Rollback 16 refused PLACE
    ∷ Call.Start 256 refused PLACE
    ∷ Call.Start 4_294_967_295 refused PLACE
    ∷ []

-- KEY: key above 255
abbrev pub keys_up_to255 : List Asked
keys_up_to255 =
    Call.Read 0 255 returns 0
    ∷ Call.Read 0 256 refused KEY
    ∷ Call.Update 0 255 12 returns 0
    ∷ Call.Update 0 256 12 refused KEY
    ∷ Call.Read 0 65_536 refused KEY
    ∷ Call.Update 0 4_294_967_295 12 refused KEY
    ∷ []

-- one more transaction, prepared, at place 3
abbrev pub four_places : Board
four_places = counts 4 0 (opened 1 0 ∷ spoiled 2 0 ∷ prepared 3 0 ∷ prepared 4 0 ∷ [])

-- three cells, and each is taken by a write: of key 7 by place 2, of key 8 by place 0, of key 9 by place 3
abbrev pub taken : List ℕ
taken = four 8 5 3 0 ++ four 9 5 1 0 ++ four 10 5 4 0

-- CONFLICT, PREPARED and FULL, as above
abbrev pub on_taken : List Asked
on_taken =
    Call.Update 0 7 12 refused CONFLICT
    ∷ Call.Read 0 7 refused PREPARED
    ∷ Call.Update 0 10 12 refused FULL
    ∷ Call.Update 0 8 12 returns 0
    ∷ Call.Read 0 8 returns 5
    ∷ Call.Read 0 10 returns 0
    ∷ []

-- THE LIST
abbrev pub check_rows : List Block
check_rows =
    last_starts
    ++ on (counts 4_000_000_000 3_999_999_999 (opened 4_000_000_000 3_999_999_999 ∷ [])) (zeros 16) last_of_all
    ∷ on three (zeros 16) (at_idle ++ at_open ++ at_spoiled ++ at_prepared ++ places_up_to15 ++ keys_up_to255)
    ∷ on four_places taken on_taken
    ∷ []

-- every call is answered as said
abbrev pub ChecksHold : Type 0
ChecksHold = Agree comes_back said_back check_rows
