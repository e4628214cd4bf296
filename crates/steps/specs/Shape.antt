-- Document 01's paragraph on shape.
-- Assumes nothing.
use Rattle.std.specs.Prelude.{ℕ, ◌+◌, Bool, true, false, cond, not, ◌&&◌, ◌||◌, List, [], ◌∷◌, leb, eqb, length}
use Rattle.cells.specs.Cells.{whole_cells}
use Rattle.steps.specs.declared.Place.{Place}
use Rattle.steps.specs.declared.Board.{Board}
use Rattle.steps.specs.Record.{is_idle, most_cells, most_starts}

-- the places not idle
abbrev pub held : List Place → List Place
held [] = []
held (p ∷ ps) = cond (is_idle p.state) (held ps) (p ∷ held ps)

-- one of the places has this transaction number
abbrev pub has_number : ℕ → List Place → Bool
has_number n [] = false
has_number n (p ∷ ps) = eqb p.number n || has_number n ps

-- transaction numbers are distinct
abbrev pub distinct : List Place → Bool
distinct [] = true
distinct (p ∷ ps) = not (has_number p.number ps) && distinct ps

-- the transaction number is from 1 to the start count, and the view at most the commit count
abbrev pub counted : ℕ → ℕ → Place → Bool
counted starts commits p = leb 1 p.number && leb p.number starts && leb p.view commits

-- every one of the places passes a test
abbrev pub each : (Place → Bool) → List Place → Bool
each f [] = true
each f (p ∷ ps) = f p && each f ps

-- a board is in shape if the length is as above, the start count is at most 4,000,000,000, the commit count plus the number of places
-- not idle is at most the start count, and at the places not idle transaction numbers are distinct and from 1 to the start count, and
-- views at most the commit count
unfoldable pub in_shape : Board → ℕ → Bool
in_shape b words =
    whole_cells most_cells words
    && leb b.starts most_starts
    && leb (b.commits + length (held b.places)) b.starts
    && distinct (held b.places)
    && each (counted b.starts b.commits) (held b.places)
