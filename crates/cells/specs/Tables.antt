-- The tables of newest numbers, by which most cells are known to be spent or not without a scan for each; and what they promise.
-- Assumes nothing.
use Rattle.std.specs.Prelude.{◌≡◌, Bool, true, false, cond, not, ◌&&◌, List, [], ◌∷◌, ℕ, ltb, leb, get_or, set, replicate}
use Rattle.cells.specs.declared.Cell.{Cell}
use Rattle.cells.specs.Rules.{has_cell, newer, between, keeps}

-- how many first words have a place in a table of newest numbers: 0 and those of 256 keys
abbrev pub all_tops : ℕ
all_tops = 257

-- the number of a first word that is in the table is raised to a higher one
abbrev pub raised : List ℕ → ℕ → ℕ → List ℕ
raised t w n = cond (ltb w all_tops && ltb (get_or t w 0) n) (set t w n) t

-- the table after one more cell, if the cell passes a test
abbrev pub raised_by : (Cell → Bool) → List ℕ → Cell → List ℕ
raised_by p t c = cond (p c) (raised t c.word c.commit) t

-- the table after the cells of a list
unfoldable pub tops_from : (Cell → Bool) → List ℕ → List Cell → List ℕ
tops_from p t [] = t
tops_from p t (c ∷ cs) = tops_from p (raised_by p t c) cs

-- for each first word the greatest commit number of its cells that pass a test
unfoldable pub tops_of : (Cell → Bool) → List Cell → List ℕ
tops_of p cs = tops_from p (replicate all_tops 0) cs

-- every cell
abbrev pub any_cell : Cell → Bool
any_cell c = true

-- a cell with a commit number that is at most the view
abbrev pub up_to : ℕ → Cell → Bool
up_to view c = leb c.commit view

-- the cell's key has a committed cell with a number above the cell's, by the table where the first word is in it
unfoldable pub outdated_by : List ℕ → List Cell → Cell → Bool
outdated_by all cs c = cond (ltb c.word all_tops) (ltb c.commit (get_or all c.word 0)) (has_cell (newer c) cs)

-- the table of a view knows of a newer cell that the view sees
unfoldable pub surpassed_in : List ℕ → Cell → Bool
surpassed_in seen c = cond (ltb c.word all_tops) (ltb c.commit (get_or seen c.word 0)) false

-- the table of a view knows that the view keeps the cell
unfoldable pub held_in : List ℕ → Cell → ℕ → Bool
held_in seen c view = cond (ltb c.word all_tops) (leb c.commit view && not (ltb c.commit (get_or seen c.word 0))) false

-- the promise of a board's tables, of a nonempty cell: they tell what the rules say
pub record TablesTell (cs : List Cell) (c : Cell) : Type 0 where
  -- by the table of all cells, whether its key has a committed cell with a number above the cell's
  pub outdated : outdated_by (tops_of any_cell cs) cs c ≡ has_cell (newer c) cs
  -- by the table of a view, whether the view sees such a cell; where the first word is not in the table, never
  pub surpassed : (view : ℕ) → surpassed_in (tops_of (up_to view) cs) c ≡ (ltb c.word all_tops && has_cell (between c view) cs)
  -- by the same table, whether the view keeps the cell; where the first word is not in the table, never
  pub held : (view : ℕ) → held_in (tops_of (up_to view) cs) c view ≡ (ltb c.word all_tops && keeps cs c view)
