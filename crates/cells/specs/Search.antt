-- What the quick scans are made of. No promise speaks of these: each scan is proved equal to its rule in Rules.
-- Assumes nothing.
use Rattle.std.specs.Prelude.{◌≡◌, Bool, true, false, ◌&&◌, ◌||◌, List, [], ◌∷◌, ℕ, ◌+◌, ◌≤◌, ◌<◌, eqb, ltb, length, get_or, max, Option, Some, None}
use Rattle.cells.specs.declared.Cell.{Cell}
use Rattle.cells.specs.declared.Looked.{Looked}
use Rattle.cells.specs.Cells.{no_cell, of_key, own, foreign, seen_by}
use Rattle.cells.specs.Rules.{pick_found, pick_cell, clashes}

-- each call of a closure gives what h gives
abbrev pub Gives : {R : Type 0} → (Cell → R → Type 0) → (Cell → R) → Type 0
Gives {R} post h = (c : Cell) (r : R) → post c r → r ≡ h c

-- a change leaves every cell with another number as it is
abbrev pub Leaves : ℕ → (Cell → Cell) → Type 0
Leaves number f = (c : Cell) → eqb c.number number ≡ false → f c ≡ c

-- one of four cells from i on passes a test
abbrev pub four_have : (Cell → Bool) → ℕ → List Cell → Bool
four_have p i cs =
    p (get_or cs i no_cell) || p (get_or cs (i + 1) no_cell) || p (get_or cs (i + 2) no_cell) || p (get_or cs (i + 3) no_cell)

-- r is the first number from `from` on whose cell passes a test; past the last cell if there is none
pub record NextAt (p : Cell → Bool) (from : ℕ) (cs : List Cell) (r : ℕ) : Type 0 where
  pub onward : from ≤ r
  pub passed : (k : ℕ) → k < r → from ≤ k → p (get_or cs k no_cell) ≡ false
  pub found : r < length cs → p (get_or cs r no_cell) ≡ true

-- which is the first number from `from` on whose cell passes a test
abbrev pub NextIs : (Cell → Bool) → ℕ → List Cell → Option ℕ → Type 0
NextIs p from cs (Some r) = NextAt p from cs r
NextIs p from cs None = NextAt p from cs (max from (length cs))

-- the lowest so far, after cell i that passes the test or not
abbrev pub lowest_of : Option ℕ → Bool → ℕ → Option ℕ
lowest_of (Some j) passes i = Some j
lowest_of None passes i = pick_found passes (Some i) None

-- the newest that the view sees so far, after cell c
abbrev pub newest_of : ℕ → Cell → Cell → Cell
newest_of view best c = pick_cell (seen_by view c && ltb best.commit c.commit) c best

-- nothing seen yet
abbrev pub no_look : Looked
no_look = record { own = None; foreign = false; conflict = false; newest = no_cell }

-- what is known after one more cell of the key
abbrev pub look_turn : ℕ → ℕ → ℕ → Cell → Looked → Looked
look_turn number view i c l =
    record {
      own = lowest_of l.own (own number c) i;
      foreign = l.foreign || foreign number c;
      conflict = l.conflict || clashes number view c;
      newest = newest_of view l.newest c;
    }

-- the first where the test passes, otherwise the second
abbrev pub pick_look : Bool → Looked → Looked → Looked
pick_look true a b = a
pick_look false a b = b

-- the cells of the key one after the other, numbered from i
unfoldable pub look_from : ℕ → ℕ → ℕ → ℕ → Looked → List Cell → Looked
look_from key number view i l [] = l
look_from key number view i l (c ∷ cs) =
    look_from key number view (i + 1) (pick_look (of_key key c) (look_turn number view i c l) l) cs
