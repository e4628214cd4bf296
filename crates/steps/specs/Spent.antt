-- Where cells meet places: which cells are spent, and which write a prepared place holds back.
-- Assumes nothing.
use Rattle.std.specs.Prelude.{Bool, false, not, ◌&&◌, ◌||◌, List, [], ◌∷◌, ℕ, Option}
use Rattle.cells.specs.declared.Cell.{Cell}
use Rattle.cells.specs.Cells.{empty, committed}
use Rattle.cells.specs.Rules.{lowest_from, has_cell, newer, keeps, foreign_with}
use Rattle.steps.specs.declared.Place.{Place}
use Rattle.steps.specs.Record.{is_open, is_prepared}

-- whether a place passes a test
unfoldable pub has_place : (Place → Bool) → List Place → Bool
has_place q [] = false
has_place q (p ∷ ps) = q p || has_place q ps

-- an open place has a view W with c ≤ W and no committed cell of that key numbered above c and at most W
abbrev pub keeps_at : List Cell → Cell → Place → Bool
keeps_at cs c p = is_open p.state && keeps cs c p.view

-- a committed cell with commit number c is spent if the same key has a committed cell with a number above c, and no open place has a
-- view W with c ≤ W and no committed cell of that key numbered above c and at most W
abbrev pub spent : List Place → List Cell → Cell → Bool
spent ps cs c = committed c && has_cell (newer c) cs && not (has_place (keeps_at cs c) ps)

-- empty or spent
abbrev pub free : List Place → List Cell → Cell → Bool
free ps cs c = empty c || spent ps cs c

-- the lowest-numbered empty or spent cell
unfoldable pub reusable : List Place → List Cell → Option ℕ
reusable ps cs = lowest_from 0 (free ps cs) cs

-- the place is prepared, and a foreign cell of the key has its transaction's number
abbrev pub holds_back : ℕ → ℕ → List Cell → Place → Bool
holds_back key number cs p = is_prepared p.state && foreign_with key number p.number cs

-- a foreign cell of the key has the number of a transaction at a prepared place
unfoldable pub held_back : ℕ → ℕ → List Place → List Cell → Bool
held_back key number ps cs = has_place (holds_back key number cs) ps
