-- One look at a key's cells: what a turn and the end of the pass tell, and that the whole pass is what the rules of the four questions say.
-- Assumes nothing.
use mathlib.Core.Path.{◌≡◌, refl, sym, ap, ◌∙◌}
use mathlib.Core.Bool.{Bool, true, false, ◌&&◌, ◌||◌, or-false, or_assoc}
use mathlib.Core.List.{List, [], ◌∷◌}
use Prim.Native.Nat.{ℕ, ◌+◌, ◌*◌, ◌/◌, ◌≤◌, ◌<◌}
use native.Mathlib.Omega.{arith}
use borrow.Author.Tests.{ltb-true, ltb-false, ne_eqb}
use lib.Dec.{ltb}
use lib.ListN.{length, get_or, drop, get_or-eq_default}
use Rattle.std.specs.Prelude.{Option, Some, None}
use Rattle.cells.specs.declared.Cell.{Cell}
use Rattle.cells.specs.declared.Looked.{Looked}
use Rattle.cells.specs.Cells.{no_cell, cells_of, of_key, own, foreign, seen_by}
use Rattle.cells.specs.Rules.{lowest_from, mine, own_at, has_cell, has_foreign, clashes, blocks, conflict, newest, visible, newest_seen}
use Rattle.cells.specs.Rules.{pick_found, pick_cell, look_of}
use Rattle.cells.specs.Search.{NextAt, lowest_of, no_look, look_turn, pick_look, look_from}
use Rattle.cells.proofs.Words.{length_cells, cell_read}
use Rattle.cells.proofs.Scan.{cells_next, cells_end}
use Rattle.cells.proofs.Skip.{skip, none_next}

-- THE PASS

module _ (key number view : ℕ) where
  -- one cell, of the key or not
  look_turn_lem : (l : Looked) (i : ℕ) (c : Cell) (cs : List Cell) (t : Bool) → of_key key c ≡ t
      → look_from key number view i l (c ∷ cs)
      ≡ look_from key number view (i + 1) (pick_look t (look_turn number view i c l) l) cs
  unfolding look_from
  look_turn_lem l i c cs t e =
      ap (λ (u : Bool). look_from key number view (i + 1) (pick_look u (look_turn number view i c l) l) cs) e

  look_ends : (l : Looked) (i j : ℕ) → look_from key number view i l [] ≡ look_from key number view j l []
  unfolding look_from
  look_ends l i j = refl

  -- cells that are not of the key are passed over
  pub look_skip : (l : Looked) (cs : List Cell) (i r : ℕ) → NextAt (of_key key) i cs r
      → look_from key number view i l (drop i cs) ≡ look_from key number view r l (drop r cs)
  look_skip l cs i r told =
      skip (λ i. look_from key number view i l) (of_key key) (λ i c r. look_turn_lem l i c r false) (look_ends l) cs i r
      told.onward
      told.passed

  -- a cell of the key is looked at
  pub look_here : (l : Looked) (ws : List ℕ) (i : ℕ) → i < length ws / 4 → of_key key (get_or (cells_of ws) i no_cell) ≡ true
      → look_from key number view i l (drop i (cells_of ws))
      ≡ look_from key number view (i + 1) (look_turn number view i (get_or (cells_of ws) i no_cell) l) (drop (i + 1) (cells_of ws))
  look_here l ws i h e =
      ap (look_from key number view i l) (cells_next ws i h)
      ∙ look_turn_lem l i (get_or (cells_of ws) i no_cell) (drop (i + 1) (cells_of ws)) true e

  pub look_end : (l : Looked) (ws : List ℕ) (i : ℕ) → length ws / 4 ≤ i → look_from key number view i l (drop i (cells_of ws)) ≡ l
  unfolding look_from
  look_end l ws i h = ap (look_from key number view i l) (cells_end ws i h)

-- WHAT THE PASS COMES TO

-- the first found, otherwise the second
abbrev or_found : Option ℕ → Option ℕ → Option ℕ
or_found (Some j) f = Some j
or_found None f = f

or_nothing : (f : Option ℕ) → f ≡ or_found f None
or_nothing (Some j) = refl
or_nothing None = refl

-- one more cell, of the key or not: what each question knows after it
own_step : (t u : Bool) (a b : Looked) (i : ℕ) (f : Option ℕ) → a.own ≡ lowest_of b.own u i
    → or_found (pick_look t a b).own f ≡ or_found b.own (pick_found (t && u) (Some i) f)
own_step false u a b i f e = refl
own_step true u a b i f e = ap (λ (o : Option ℕ). or_found o f) e ∙ taken b.own u
  where
    taken : (o : Option ℕ) (u : Bool) → or_found (lowest_of o u i) f ≡ or_found o (pick_found u (Some i) f)
    taken (Some j) u = refl
    taken None true = refl
    taken None false = refl

abbrev pick_bool : Bool → Bool → Bool → Bool
pick_bool true a b = a
pick_bool false a b = b

pick_foreign : (t : Bool) (a b : Looked) → (pick_look t a b).foreign ≡ pick_bool t a.foreign b.foreign
pick_foreign true a b = refl
pick_foreign false a b = refl

pick_conflict : (t : Bool) (a b : Looked) → (pick_look t a b).conflict ≡ pick_bool t a.conflict b.conflict
pick_conflict true a b = refl
pick_conflict false a b = refl

pick_newest : (t s q : Bool) (a b : Looked) (c : Cell) → a.newest ≡ pick_cell (s && q) c b.newest
    → (pick_look t a b).newest ≡ pick_cell (t && s && q) c b.newest
pick_newest true s q a b c e = e
pick_newest false s q a b c e = refl

or_step : (t a u h : Bool) (x : Bool) → x ≡ (a || u) → (pick_bool t x a || h) ≡ (a || (t && u || h))
or_step false a u h x e = refl
or_step true a u h x e = ap (λ (y : Bool). y || h) e ∙ or_assoc a u h

module _ (key number view : ℕ) where
  abbrev next_look : ℕ → Cell → Looked → Looked
  next_look i c l = pick_look (of_key key c) (look_turn number view i c l) l

  own_from : (cs : List Cell) (i : ℕ) (l : Looked)
      → (look_from key number view i l cs).own ≡ or_found l.own (lowest_from i (mine key number) cs)
  unfolding look_from lowest_from
  own_from [] i l = or_nothing l.own
  own_from (c ∷ cs) i l =
      own_from cs (i + 1) (next_look i c l)
      ∙ own_step (of_key key c) (own number c) (look_turn number view i c l) l i (lowest_from (i + 1) (mine key number) cs) refl

  foreign_from : (cs : List Cell) (i : ℕ) (l : Looked)
      → (look_from key number view i l cs).foreign ≡ (l.foreign || has_cell (λ c. of_key key c && foreign number c) cs)
  unfolding look_from has_cell
  foreign_from [] i l = sym (or-false l.foreign)
  foreign_from (c ∷ cs) i l =
      foreign_from cs (i + 1) (next_look i c l)
      ∙ ap (λ (x : Bool). x || has_cell (λ c. of_key key c && foreign number c) cs)
      (pick_foreign (of_key key c) (look_turn number view i c l) l)
      ∙ or_step (of_key key c) l.foreign (foreign number c) (has_cell (λ c. of_key key c && foreign number c) cs) _ refl

  conflict_from : (cs : List Cell) (i : ℕ) (l : Looked)
      → (look_from key number view i l cs).conflict ≡ (l.conflict || has_cell (blocks key number view) cs)
  unfolding look_from has_cell
  conflict_from [] i l = sym (or-false l.conflict)
  conflict_from (c ∷ cs) i l =
      conflict_from cs (i + 1) (next_look i c l)
      ∙ ap (λ (x : Bool). x || has_cell (blocks key number view) cs)
      (pick_conflict (of_key key c) (look_turn number view i c l) l)
      ∙ or_step (of_key key c) l.conflict (clashes number view c) (has_cell (blocks key number view) cs) _ refl

  newest_from : (cs : List Cell) (i : ℕ) (l : Looked)
      → (look_from key number view i l cs).newest ≡ newest (visible key view) l.newest cs
  unfolding look_from newest
  newest_from [] i l = refl
  newest_from (c ∷ cs) i l =
      newest_from cs (i + 1) (next_look i c l)
      ∙ ap (λ (b : Cell). newest (visible key view) b cs)
      (pick_newest (of_key key c) (seen_by view c) (ltb l.newest.commit c.commit) (look_turn number view i c l) l c refl)

  -- the whole pass is what the rules say
  pub look_is : (cs : List Cell) → look_from key number view 0 no_look cs ≡ look_of key number view cs
  unfolding own_at has_foreign conflict newest_seen
  look_is cs = λ i.
      record {
        own = own_from cs 0 no_look i;
        foreign = foreign_from cs 0 no_look i;
        conflict = conflict_from cs 0 no_look i;
        newest = newest_from cs 0 no_look i;
      }

  -- no cell of words below 2 ^ 32 is of a key that has no word
  none_of_last : (ws : List ℕ) → 4_294_967_296 ≤ key + 1 → ((k : ℕ) → get_or ws k 0 < 4_294_967_296) → (k : ℕ)
      → of_key key (get_or (cells_of ws) k no_cell) ≡ false
  none_of_last ws last h k = here (ltb k (length ws / 4)) refl
    where
      here : (t : Bool) → ltb k (length ws / 4) ≡ t → of_key key (get_or (cells_of ws) k no_cell) ≡ false
      here true e =
          sym (ap (of_key key) (cell_read ws k (ltb-true _ _ e)))
          ∙ ne_eqb (get_or ws (4 * k) 0) (key + 1) (λ q. omega (arith, h (4 * k)))
      here false e =
          let past : length (cells_of ws) ≤ k = omega (arith, length_cells ws, ltb-false k (length ws / 4) e) in
          ap (of_key key) (get_or-eq_default (cells_of ws) no_cell past) ∙ ne_eqb 0 (key + 1) (λ q. omega arith)

  -- so nothing is seen of it
  pub look_last : (ws : List ℕ) → 4_294_967_296 ≤ key + 1 → ((k : ℕ) → get_or ws k 0 < 4_294_967_296)
      → no_look ≡ look_of key number view (cells_of ws)
  look_last ws last h =
      sym (look_skip key number view no_look (cells_of ws) 0 _
      (none_next (of_key key) 0 (cells_of ws) (λ k l g. none_of_last ws last h k))
      ∙ look_end key number view no_look ws _ (omega (arith, length_cells ws)))
      ∙ look_is (cells_of ws)
