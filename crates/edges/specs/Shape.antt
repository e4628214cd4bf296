-- Shape: a board just inside and a board just outside of each condition.
-- Assumes nothing.
use Rattle.std.specs.Prelude.{ℕ, Bool, true, false, not, List, [], ◌∷◌, ◌++◌, map, eqb, replicate}
use Rattle.records.specs.declared.Call.{Call}
use Rattle.steps.specs.declared.Board.{Board}
use Rattle.steps.specs.Store.{lent}
use Rattle.steps.specs.Step.{step}
use Rattle.edges.specs.Names.{Agree, BOARD, opened, spoiled, prepared, idle, counts, zeros}

-- a record, the lent words, and whether document 01 says that the board is in shape
pub record Shaped : Type 0 where
  pub board : Board
  pub words : List ℕ
  pub said : Bool

-- in shape
abbrev pub inside : Board → List ℕ → Shaped
inside b ws = record { board = b; words = ws; said = true }

-- not in shape
abbrev pub outside : Board → List ℕ → Shaped
outside b ws = record { board = b; words = ws; said = false }

-- one call of each kind
abbrev pub six_calls : List Call
six_calls = Call.Start 9 ∷ Call.Read 9 7 ∷ Call.Update 9 7 12 ∷ Call.Prepare 9 ∷ Call.Commit 9 ∷ Call.Rollback 9 ∷ []

-- whether each of them is refused with BOARD
abbrev pub refused_board : Shaped → List Bool
refused_board r = map (λ call. eqb (step (lent r.board r.words) call).said.number BOARD) six_calls

-- on a board in shape none of them is, on any other all are
abbrev pub said_board : Shaped → List Bool
said_board r = replicate 6 (not r.said)

-- the length is a multiple of 4, from 4 to 4,096 words
abbrev pub lengths : List Shaped
lengths =
    outside (counts 0 0 []) (zeros 0)
    ∷ outside (counts 0 0 []) (zeros 1)
    ∷ outside (counts 0 0 []) (zeros 3)
    ∷ inside (counts 0 0 []) (zeros 4)
    ∷ outside (counts 0 0 []) (zeros 5)
    ∷ outside (counts 0 0 []) (zeros 6)
    ∷ outside (counts 0 0 []) (zeros 7)
    ∷ inside (counts 0 0 []) (zeros 8)
    ∷ inside (counts 0 0 []) (zeros 4_092)
    ∷ outside (counts 0 0 []) (zeros 4_095)
    ∷ inside (counts 0 0 []) (zeros 4_096)
    ∷ outside (counts 0 0 []) (zeros 4_097)
    ∷ outside (counts 0 0 []) (zeros 4_100)
    ∷ outside (counts 0 0 []) (zeros 8_000)
    ∷ []

-- the start count is at most 4,000,000,000
abbrev pub start_counts : List Shaped
start_counts =
    inside (counts 3_000_000_001 0 []) (zeros 16)
    ∷ inside (counts 4_000_000_000 0 []) (zeros 16)
    ∷ outside (counts 4_000_000_001 0 []) (zeros 16)
    ∷ outside (counts 4_294_967_295 0 []) (zeros 16)
    ∷ []

-- the commit count plus the number of places not idle is at most the start count
abbrev pub sums : List Shaped
sums =
    -- no place is taken
    inside (counts 5 5 []) (zeros 16)
    ∷ outside (counts 5 6 []) (zeros 16)
    -- one place, in each of the states
    ∷ inside (counts 5 4 (opened 5 0 ∷ [])) (zeros 16)
    ∷ outside (counts 5 5 (opened 5 0 ∷ [])) (zeros 16)
    ∷ inside (counts 5 4 (spoiled 5 0 ∷ [])) (zeros 16)
    ∷ outside (counts 5 5 (spoiled 5 0 ∷ [])) (zeros 16)
    ∷ inside (counts 5 4 (prepared 5 0 ∷ [])) (zeros 16)
    ∷ outside (counts 5 5 (prepared 5 0 ∷ [])) (zeros 16)
    -- an idle place does not count
    ∷ inside (counts 5 5 (idle 5 0 ∷ [])) (zeros 16)
    -- three places
    ∷ inside (counts 5 2 (opened 3 0 ∷ spoiled 4 0 ∷ prepared 5 0 ∷ [])) (zeros 16)
    ∷ outside (counts 5 3 (opened 3 0 ∷ spoiled 4 0 ∷ prepared 5 0 ∷ [])) (zeros 16)
    -- the last place counts too
    ∷ inside (counts 5 4 (replicate 15 (idle 0 0) ++ opened 5 0 ∷ [])) (zeros 16)
    ∷ outside (counts 5 5 (replicate 15 (idle 0 0) ++ opened 5 0 ∷ [])) (zeros 16)
    -- the sum is that of whole numbers: 4,294,967,295 and 1 are not 0
    ∷ outside (counts 5 4_294_967_295 (opened 5 0 ∷ [])) (zeros 16)
    ∷ []

-- at the places not idle transaction numbers are distinct
abbrev pub distinct_numbers : List Shaped
distinct_numbers =
    inside (counts 5 0 (opened 3 0 ∷ opened 4 0 ∷ [])) (zeros 16)
    ∷ outside (counts 5 0 (opened 3 0 ∷ opened 3 0 ∷ [])) (zeros 16)
    -- in whatever state
    ∷ outside (counts 5 0 (opened 3 0 ∷ spoiled 3 0 ∷ [])) (zeros 16)
    ∷ outside (counts 5 0 (spoiled 3 0 ∷ prepared 3 0 ∷ [])) (zeros 16)
    ∷ outside (counts 5 0 (prepared 3 0 ∷ opened 3 0 ∷ [])) (zeros 16)
    -- at the first and the last place
    ∷ outside (counts 5 0 (opened 3 0 ∷ replicate 14 (idle 0 0) ++ opened 3 0 ∷ [])) (zeros 16)
    -- what stands at an idle place is no transaction's number
    ∷ inside (counts 5 0 (opened 3 0 ∷ idle 3 0 ∷ [])) (zeros 16)
    ∷ []

-- and from 1 to the start count
abbrev pub numbers : List Shaped
numbers =
    outside (counts 5 0 (opened 0 0 ∷ [])) (zeros 16)
    ∷ inside (counts 5 0 (opened 1 0 ∷ [])) (zeros 16)
    ∷ inside (counts 5 0 (opened 5 0 ∷ [])) (zeros 16)
    ∷ outside (counts 5 0 (opened 6 0 ∷ [])) (zeros 16)
    ∷ outside (counts 5 0 (spoiled 0 0 ∷ [])) (zeros 16)
    ∷ inside (counts 5 0 (spoiled 1 0 ∷ [])) (zeros 16)
    ∷ inside (counts 5 0 (spoiled 5 0 ∷ [])) (zeros 16)
    ∷ outside (counts 5 0 (spoiled 6 0 ∷ [])) (zeros 16)
    ∷ outside (counts 5 0 (prepared 0 0 ∷ [])) (zeros 16)
    ∷ inside (counts 5 0 (prepared 1 0 ∷ [])) (zeros 16)
    ∷ inside (counts 5 0 (prepared 5 0 ∷ [])) (zeros 16)
    ∷ outside (counts 5 0 (prepared 6 0 ∷ [])) (zeros 16)
    -- at the last place too
    ∷ outside (counts 5 0 (replicate 15 (idle 0 0) ++ opened 0 0 ∷ [])) (zeros 16)
    ∷ outside (counts 5 0 (replicate 15 (idle 0 0) ++ opened 6 0 ∷ [])) (zeros 16)
    ∷ []

-- and views at most the commit count
abbrev pub views : List Shaped
views =
    inside (counts 5 2 (opened 3 2 ∷ [])) (zeros 16)
    ∷ outside (counts 5 2 (opened 3 3 ∷ [])) (zeros 16)
    ∷ inside (counts 5 2 (spoiled 3 2 ∷ [])) (zeros 16)
    ∷ outside (counts 5 2 (spoiled 3 3 ∷ [])) (zeros 16)
    ∷ inside (counts 5 2 (prepared 3 2 ∷ [])) (zeros 16)
    ∷ outside (counts 5 2 (prepared 3 3 ∷ [])) (zeros 16)
    -- at the last place too
    ∷ outside (counts 5 2 (replicate 15 (idle 0 0) ++ opened 3 3 ∷ [])) (zeros 16)
    ∷ []

-- no more is asked: an idle place may hold anything, and cell words may hold anything
abbrev pub anything : List Shaped
anything =
    inside (counts 5 2 (idle 0 0 ∷ idle 6 3 ∷ idle 6 3 ∷ [])) (zeros 16)
    ∷ inside (counts 0 0 (replicate 16 (idle 4_294_967_295 4_294_967_295))) (zeros 16)
    ∷ inside (counts 0 0 []) (replicate 16 4_294_967_295)
    ∷ []

-- THE LIST
abbrev pub shape_rows : List Shaped
shape_rows = lengths ++ start_counts ++ sums ++ distinct_numbers ++ numbers ++ views ++ anything

-- every board is in shape, or not, as said
abbrev pub ShapesHold : Type 0
ShapesHold = Agree refused_board said_board shape_rows
