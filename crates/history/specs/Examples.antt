-- Closed histories: cases 2, 5 and 9 of document 01, two transactions that overlapped, and stores that cheat.
-- Assumes nothing.
use Rattle.std.specs.Prelude.{◌≡◌, Bool, true, not, ◌&&◌, List, [], ◌∷◌, ◌++◌, ℕ, Ok, Err}
use Rattle.records.specs.declared.Call.{Call}
use Rattle.records.specs.declared.Refusal.{Refusal}
use Rattle.steps.specs.Store.{said_of}
use Rattle.steps.specs.Run.{Pair, calls_of}
use Rattle.steps.specs.Situations.{◌gives◌, same_said, Situation, first_commit}
use Rattle.history.specs.History.{Ledger, new_ledger, note, ledger, from_fresh, OverlappedApart}
use Rattle.history.specs.Verdict.{verdict}
use Rattle.records.specs.Answers.{Answer}

-- the situation's history is the one that document 01 tells
abbrev pub AsTold : Situation → Type 0
AsTold s = (from_fresh s.cells (calls_of s.pairs)).pairs ≡ s.pairs

-- TWO THAT OVERLAPPED

-- places 0 and 1 open before either commits. Place 0 writes key 1 and commits, then place 1 writes a key and commits
abbrev pub write_in_turn : ℕ → List Pair
write_in_turn key =
    Call.Update 0 1 3 gives Ok 0
    ∷ Call.Commit 0 gives Ok 1
    ∷ Call.Update 1 key 4 gives Ok 0
    ∷ Call.Commit 1 gives Ok 2
    ∷ []

-- the first to commit began first
abbrev pub first_began_first : ℕ → List Pair
first_began_first key = Call.Start 0 gives Ok 1 ∷ Call.Start 1 gives Ok 2 ∷ write_in_turn key

-- the last to commit began first
abbrev pub last_began_first : ℕ → List Pair
last_began_first key = Call.Start 1 gives Ok 1 ∷ Call.Start 0 gives Ok 2 ∷ write_in_turn key

-- demand 3 does not allow these answers
abbrev pub SharedKey : List Pair → Type 0
SharedKey hs = OverlappedApart hs → ⊥

-- CHEATS

-- every answer is the verdict of the pairs before it
abbrev pub judged : Ledger → List Pair → Bool
judged L [] = true
judged L (h ∷ hs) = same_said (said_of (verdict L h.call)) h.said && judged (note L h) hs

-- a history, the next call, what the cheating store answers, and what is due
pub record Cheat : Type 0 where
  pub before : List Pair
  pub call : Call
  pub cheating : Answer
  pub right : Answer

-- the history with the cheating answer
abbrev pub cheated : Cheat → List Pair
cheated c = c.before ++ (c.call gives c.cheating ∷ [])

-- nothing was wrong before; the verdict is the right answer, and the cheating one is not
abbrev pub caught : Cheat → Bool
caught c =
    judged new_ledger c.before
    && same_said (said_of (verdict (ledger c.before) c.call)) (said_of c.right)
    && not (same_said (said_of c.cheating) (said_of c.right))

-- all of them
abbrev pub all_caught : List Cheat → Bool
all_caught [] = true
all_caught (c ∷ cs) = caught c && all_caught cs

-- testing for conflict at commit against views alone: two unfinished writers then share a key
abbrev pub views_alone : Cheat
views_alone =
    record {
      before = Call.Start 0 gives Ok 1 ∷ Call.Start 1 gives Ok 2 ∷ Call.Update 0 5 1 gives Ok 0 ∷ [];
      call = Call.Update 1 5 2;
      cheating = Ok 0;
      right = Err Refusal.Conflict;
    }

-- taking the newest committed value at each read, which makes case 2 show 12
abbrev pub newest_at_each_read : Cheat
newest_at_each_read =
    record {
      before =
          Call.Start 0 gives Ok 1
          ∷ Call.Update 0 7 12 gives Ok 0
          ∷ Call.Start 1 gives Ok 2
          ∷ Call.Read 1 7 gives Ok 0
          ∷ Call.Commit 0 gives Ok 1
          ∷ [];
      call = Call.Read 1 7;
      cheating = Ok 12;
      right = Ok 0;
    }

-- reusing any version that isn't the newest: case 9 then reads 0 at place 5
abbrev pub any_old_version : Cheat
any_old_version =
    record {
      before =
          first_commit
          ++ Call.Start 5 gives Ok 2
          ∷ Call.Start 0 gives Ok 3
          ∷ Call.Update 0 0 2 gives Ok 0
          ∷ Call.Commit 0 gives Ok 2
          ∷ Call.Start 0 gives Ok 4
          ∷ Call.Update 0 0 3 gives Ok 0
          ∷ [];
      call = Call.Read 5 0;
      cheating = Ok 0;
      right = Ok 1;
    }

-- dropping a rolled-back writer's words only in its first cell, so a second key stays blocked
abbrev pub first_cell_only : Cheat
first_cell_only =
    record {
      before =
          Call.Start 0 gives Ok 1
          ∷ Call.Update 0 1 1 gives Ok 0
          ∷ Call.Update 0 2 1 gives Ok 0
          ∷ Call.Rollback 0 gives Ok 0
          ∷ Call.Start 1 gives Ok 2
          ∷ Call.Update 1 1 9 gives Ok 0
          ∷ [];
      call = Call.Update 1 2 9;
      cheating = Err Refusal.Conflict;
      right = Ok 0;
    }

-- one that works for the first transaction and then feigns: it hands out the running numbers, and writes nothing more
abbrev pub feigning : Cheat
feigning =
    record {
      before =
          first_commit
          ++ Call.Start 0 gives Ok 2
          ∷ Call.Update 0 0 2 gives Ok 0
          ∷ Call.Commit 0 gives Ok 2
          ∷ Call.Start 0 gives Ok 3
          ∷ [];
      call = Call.Read 0 0;
      cheating = Ok 1;
      right = Ok 2;
    }

-- the list
abbrev pub cheats : List Cheat
cheats = views_alone ∷ newest_at_each_read ∷ any_old_version ∷ first_cell_only ∷ feigning ∷ []

-- AXIOMS THAT BIND THE STORE

-- a transaction that reads one key twice and is shown two values breaks Int
abbrev pub two_values : List Pair
two_values = newest_at_each_read.before ++ Call.Read 1 7 gives Ok 12 ∷ Call.Commit 1 gives Ok 2 ∷ []

-- one that is shown what nobody wrote breaks Ext
abbrev pub never_written : List Pair
never_written = Call.Start 0 gives Ok 1 ∷ Call.Read 0 7 gives Ok 5 ∷ Call.Commit 0 gives Ok 1 ∷ []

-- and two that overlapped and wrote one key break NoConflict
abbrev pub one_key : List Pair
one_key = last_began_first 1
