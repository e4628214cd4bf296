-- What a scan of the cells finds, and what a step writes in them.
-- Assumes nothing.
use Rattle.std.specs.Prelude.{Bool, true, false, not, ◌&&◌, ◌||◌, List, [], ◌∷◌, ℕ, ◌+◌, eqb, ltb, leb, Option, Some, None}
use Rattle.cells.specs.declared.Cell.{Cell}
use Rattle.cells.specs.declared.Looked.{Looked}
use Rattle.cells.specs.Cells.{no_cell, own, foreign, committed, of_key, seen_by}

-- the first where the test passes, otherwise the second
abbrev pub pick_found : Bool → Option ℕ → Option ℕ → Option ℕ
pick_found true a b = a
pick_found false a b = b

-- the same of two cells
abbrev pub pick_cell : Bool → Cell → Cell → Cell
pick_cell true a b = a
pick_cell false a b = b

-- the lowest cell that passes a test, of cells that are numbered from i
unfoldable pub lowest_from : ℕ → (Cell → Bool) → List Cell → Option ℕ
lowest_from i p [] = None
lowest_from i p (c ∷ cs) = pick_found (p c) (Some i) (lowest_from (i + 1) p cs)

-- whether a cell passes a test
unfoldable pub has_cell : (Cell → Bool) → List Cell → Bool
has_cell p [] = false
has_cell p (c ∷ cs) = p c || has_cell p cs

-- of b and the cells that pass a test, the one with the greatest commit number; with the lowest cell number on a tie
unfoldable pub newest : (Cell → Bool) → Cell → List Cell → Cell
newest p b [] = b
newest p b (c ∷ cs) = newest p (pick_cell (p c && ltb b.commit c.commit) c b) cs

-- an own cell of the key
abbrev pub mine : ℕ → ℕ → Cell → Bool
mine key number c = of_key key c && own number c

-- the lowest own cell of the key
unfoldable pub own_at : ℕ → ℕ → List Cell → Option ℕ
own_at key number cs = lowest_from 0 (mine key number) cs

-- a foreign cell of the key that has the given number
abbrev pub foreign_of : ℕ → ℕ → ℕ → Cell → Bool
foreign_of key number other c = of_key key c && (foreign number c && eqb c.number other)

-- a foreign cell of the key has the given number
unfoldable pub foreign_with : ℕ → ℕ → ℕ → List Cell → Bool
foreign_with key number other cs = has_cell (foreign_of key number other) cs

-- a committed cell of the key with a commit number that is at most the view
abbrev pub visible : ℕ → ℕ → Cell → Bool
visible key view c = of_key key c && seen_by view c

-- the key's committed cell with the greatest commit number that is at most the view; four zeros if there is none
unfoldable pub newest_seen : ℕ → ℕ → List Cell → Cell
newest_seen key view cs = newest (visible key view) no_cell cs

-- foreign, or committed with a commit number above the view
abbrev pub clashes : ℕ → ℕ → Cell → Bool
clashes number view c = foreign number c || (committed c && ltb view c.commit)

-- a cell of the key that is foreign, or committed with a commit number above the view
abbrev pub blocks : ℕ → ℕ → ℕ → Cell → Bool
blocks key number view c = of_key key c && clashes number view c

-- the key has a foreign cell or a committed cell with commit number above V
unfoldable pub conflict : ℕ → ℕ → ℕ → List Cell → Bool
conflict key number view cs = has_cell (blocks key number view) cs

-- the key has a foreign cell
unfoldable pub has_foreign : ℕ → ℕ → List Cell → Bool
has_foreign key number cs = has_cell (λ c. of_key key c && foreign number c) cs

-- what a read and an update ask of the key's cells
abbrev pub look_of : ℕ → ℕ → ℕ → List Cell → Looked
look_of key number view cs =
    record {
      own = own_at key number cs;
      foreign = has_foreign key number cs;
      conflict = conflict key number view cs;
      newest = newest_seen key view cs;
    }

-- the cell takes the value
abbrev pub valued : ℕ → Cell → Cell
valued value c = record { word = c.word; value = value; number = c.number; commit = c.commit }

-- every own cell takes it as commit number
abbrev pub stamped : ℕ → ℕ → Cell → Cell
stamped number commit c =
    pick_cell (own number c) (record { word = c.word; value = c.value; number = c.number; commit = commit }) c

-- every own cell becomes four zeros
abbrev pub wiped : ℕ → Cell → Cell
wiped number c = pick_cell (own number c) no_cell c

-- the same key has a committed cell d with a number above c's
abbrev pub newer : Cell → Cell → Bool
newer c d = eqb d.word c.word && committed d && ltb c.commit d.commit

-- a committed cell of that key numbered above c's and at most W
abbrev pub between : Cell → ℕ → Cell → Bool
between c W d = newer c d && leb d.commit W

-- a view W with c ≤ W and no committed cell of that key numbered above c and at most W
abbrev pub keeps : List Cell → Cell → ℕ → Bool
keeps cs c W = leb c.commit W && not (has_cell (between c W) cs)
