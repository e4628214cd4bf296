-- The quick search for a cell to reuse: what the oldest open view tells of all the others.
--     none_past      what the oldest view is past, no open view keeps
--     one_keeps      what the oldest view keeps, an open place keeps
--     none_keep, some_keeps     the same of any place whose view is the oldest
--     oldest_at      the least view of the open places is that of a place that is open, and of an oldest one
--     past_least, kept_least     so the two tell what the search makes of the least view
--     none_back      without a foreign cell no prepared writer holds a key back
--     held_if        so that it need be asked only where there is one
-- Assumes nothing.
use mathlib.Core.Path.{◌≡◌, refl, sym, ap, ◌∙◌}
use mathlib.Core.Bool.{Bool, true, false, not, ◌&&◌, ◌||◌, true≢false, false≢true, and-false, or-true}
use mathlib.Core.List.{List, [], ◌∷◌}
use Prim.Native.Nat.{ℕ, zero, suc, ◌≤◌, ◌<◌}
use native.Mathlib.Nat.{le_of_suc-le-suc, not-suc-le-zero}
use native.Mathlib.Omega.{arith}
use borrow.Author.Tests.{ltb-false, leb-true, le-leb, le-ltb, ne_eqb, not-true, eqb-true, eqb-false, eq-eqb}
use lib.Dec.{eqb, ltb, leb}
use lib.ListN.{length, get_or}
use Rattle.cells.specs.declared.Cell.{Cell}
use Rattle.cells.specs.Cells.{no_cell, of_key, foreign}
use Rattle.cells.specs.Rules.{has_cell, newer, between, keeps, foreign_of, foreign_with, has_foreign}
use Rattle.cells.proofs.Meaning.{has_found, some_has}
use Rattle.steps.specs.declared.Place.{Place}
use Rattle.steps.specs.Record.{all_places, idle_place, is_open, is_prepared}
use Rattle.std.specs.Prelude.{cond, min, map, Option, Some, None}
use Rattle.std.specs.Option.{unwrap_or}
use Rattle.std.specs.List.{filter, fold, reduce, list_any}
use Rattle.std.proofs.lemmas.List.Folds.{Any-from_list_any, list_any-from_Any}
use Rattle.steps.proofs.Spent.{has_is_any}
use Rattle.steps.specs.Search.{open_views, oldest_view, OldestAt}
use Rattle.steps.proofs.Tests.{and_left, and_right, and_both, or_neither}
use Rattle.steps.specs.Spent.{has_place, keeps_at, holds_back, held_back}

-- THE LEAST OF A LIST

-- no number of the list is below it
fold_least : (a : ℕ) (xs : List ℕ) (m : ℕ) → fold min a xs ≡ m → (m ≤ a) × (list_any (λ x. ltb x m) xs ≡ false)
fold_least a [] m e = (omega arith, refl)
fold_least a (x ∷ xs) m e =
    let f = fold_least (min a x) xs m e in
    (omega (arith, f.0), or_neither (le-ltb x m (omega (arith, f.0))) f.1)

-- one number of the list is it
fold_found : (a : ℕ) (xs : List ℕ) (m : ℕ) → fold min a xs ≡ m → (eqb a m || list_any (λ x. eqb x m) xs) ≡ true
fold_found a [] m e = ap (λ (b : Bool). b || false) (eq-eqb a m e)
fold_found a (x ∷ xs) m e = turn (eqb a m) (eqb x m) refl refl (fold_found (min a x) xs m e)
  where
    turn : (b d : Bool) → eqb a m ≡ b → eqb x m ≡ d → (eqb (min a x) m || list_any (λ x. eqb x m) xs) ≡ true
        → (b || (d || list_any (λ x. eqb x m) xs)) ≡ true
    turn true d p q i = refl
    turn false true p q i = refl
    turn false false p q i =
        let neither = ne_eqb (min a x) m (λ h. omega (arith, eqb-false a m p, eqb-false x m q)) in
        ap (λ (b : Bool). b || list_any (λ x. eqb x m) xs) (sym neither) ∙ i

-- THE OLDEST OPEN PLACE

-- a test of the views of the open places
open_any : (f : ℕ → Bool) (ps : List Place) → list_any (λ p. is_open p.state && f p.view) ps ≡ list_any f (open_views ps)
open_any f [] = refl
open_any f (p ∷ ps) = turn (is_open p.state) (open_any f ps)
  where
    turn : (t : Bool) {b : Bool} → b ≡ list_any f (open_views ps)
        → ((t && f p.view) || b) ≡ list_any f (map (λ (p : Place). p.view) (cond t (p ∷ filter (λ p. is_open p.state) ps) (filter (λ p. is_open p.state) ps)))
    turn true e = ap (λ (b : Bool). f p.view || b) e
    turn false e = e

none_below : (ps : List Place) (o : Option ℕ) → oldest_view ps ≡ o
    → list_any (λ p. is_open p.state && ltb p.view (unwrap_or o 0)) ps ≡ false
none_below ps o e = open_any (λ x. ltb x (unwrap_or o 0)) ps ∙ by_views (open_views ps) o e
  where
    by_views : (xs : List ℕ) (o : Option ℕ) → reduce min xs ≡ o → list_any (λ x. ltb x (unwrap_or o 0)) xs ≡ false
    by_views [] o e = refl
    by_views (x ∷ xs) None e = absurd (let z : ◌≡◌ {A = Option ℕ} (Some (fold min x xs)) None = e in cc)
    by_views (x ∷ xs) (Some m) e =
        let f = fold_least x xs m (cc) in
        or_neither (le-ltb x m f.0) f.1

one_at : (ps : List Place) (m : ℕ) → oldest_view ps ≡ Some m → list_any (λ p. is_open p.state && eqb p.view m) ps ≡ true
one_at ps m e = open_any (λ x. eqb x m) ps ∙ by_views (open_views ps) e
  where
    by_views : (xs : List ℕ) → reduce min xs ≡ Some m → list_any (λ x. eqb x m) xs ≡ true
    by_views [] e = absurd (let z : ◌≡◌ {A = Option ℕ} None (Some m) = e in cc)
    by_views (x ∷ xs) e = fold_found x xs m (cc)

-- WHAT ITS VIEW TELLS

-- what passes one test passes another
any_more : {X : Type 0} (p q : X → Bool) → ((x : X) → p x ≡ true → q x ≡ true) → (xs : List X) → list_any p xs ≡ true
    → list_any q xs ≡ true
any_more p q f xs e = let a = Any-from_list_any p xs e in list_any-from_Any q xs (a.0, a.1, a.2, a.3, f a.1 a.4)

cell_more : (p q : Cell → Bool) → ((d : Cell) → p d ≡ true → q d ≡ true) → (cs : List Cell) → has_cell p cs ≡ true → has_cell q cs ≡ true
cell_more p q f cs e = let a = has_found p cs e in some_has q cs a.at a.inside (f (get_or cs a.at no_cell) a.passes)

-- a later view sees it too
between_later : (c : Cell) (m W : ℕ) → m ≤ W → (d : Cell) → between c m d ≡ true → between c W d ≡ true
between_later c m W h d = by_newer (newer c d)
  where
    by_newer : (a : Bool) → (a && leb d.commit m) ≡ true → (a && leb d.commit W) ≡ true
    by_newer false e = e
    by_newer true e = le-leb d.commit W (omega (arith, leb-true d.commit m e))

module _ (ps : List Place) (cs : List Cell) (c : Cell) where
  module _ (o : Option ℕ) (past : has_cell (between c (unwrap_or o 0)) cs ≡ true) where
    abbrev view : ℕ
    view = unwrap_or o 0

    abbrev below : Place → Bool
    below p = is_open p.state && ltb p.view view

    kept_below : (p : Place) → keeps_at cs c p ≡ true → below p ≡ true
    kept_below p k = by_view (ltb p.view view) refl
      where
        seen : view ≤ p.view → has_cell (between c p.view) cs ≡ true
        seen l = cell_more (between c view) (between c p.view) (between_later c view p.view l) cs past

        kept : keeps cs c p.view ≡ true
        kept = and_right (is_open p.state) (keeps cs c p.view) k

        none : has_cell (between c p.view) cs ≡ false
        none = not-true _ (and_right (leb c.commit p.view) (not (has_cell (between c p.view) cs)) kept)

        by_view : (b : Bool) → ltb p.view view ≡ b → below p ≡ true
        by_view true e = and_both (and_left (is_open p.state) (keeps cs c p.view) k) e
        by_view false e = absurd (true≢false (sym (seen (ltb-false p.view view e)) ∙ none))

    pub none_past : oldest_view ps ≡ o → has_place (keeps_at cs c) ps ≡ false
    none_past e = sym (has_is_any (keeps_at cs c) ps) ∙ by_kept (list_any (keeps_at cs c) ps) refl
      where
        by_kept : (b : Bool) → list_any (keeps_at cs c) ps ≡ b → b ≡ false
        by_kept false f = refl
        by_kept true f = absurd (true≢false (sym (any_more (keeps_at cs c) below kept_below ps f) ∙ none_below ps o e))

  pub one_keeps : (view : ℕ) → oldest_view ps ≡ Some view → keeps cs c view ≡ true → has_place (keeps_at cs c) ps ≡ true
  one_keeps view e k =
      sym (has_is_any (keeps_at cs c) ps)
      ∙ any_more (λ p. is_open p.state && eqb p.view view) (keeps_at cs c) here ps (one_at ps view e)
    where
      here : (p : Place) → (is_open p.state && eqb p.view view) ≡ true → keeps_at cs c p ≡ true
      here p f =
          let same = eqb-true p.view view (and_right (is_open p.state) (eqb p.view view) f) in
          and_both (and_left (is_open p.state) (eqb p.view view) f) (ap (keeps cs c) same ∙ k)

-- WHAT A PLACE WITH THE OLDEST VIEW TELLS

no_place : (q : Place → Bool) (ps : List Place) → ((k : ℕ) → k < length ps → q (get_or ps k idle_place) ≡ false)
    → has_place q ps ≡ false
unfolding has_place
no_place q [] h = refl
no_place q (p ∷ ps) h = λ i. h 0 (omega arith) i || no_place q ps (λ k l. h (suc k) (omega arith)) i

a_place : (q : Place → Bool) (ps : List Place) (k : ℕ) → k < length ps → q (get_or ps k idle_place) ≡ true → has_place q ps ≡ true
unfolding has_place
a_place q [] k l e = absurd (not-suc-le-zero l)
a_place q (p ∷ ps) zero l e = ap (λ (b : Bool). b || has_place q ps) e
a_place q (p ∷ ps) (suc k) l e = ap (λ (b : Bool). q p || b) (a_place q ps k (le_of_suc-le-suc l) e) ∙ or-true (q p)

module _ (ps : List Place) (r : ℕ) (oldest : OldestAt ps r) (long : length ps ≡ all_places) (cs : List Cell) (c : Cell) where
  past_view : has_cell (between c (get_or ps r idle_place).view) cs ≡ true → (k : ℕ) → k < length ps
      → (b : Bool) → is_open (get_or ps k idle_place).state ≡ b → (b && keeps cs c (get_or ps k idle_place).view) ≡ false
  past_view e k l false o = refl
  past_view e k l true o =
      let W = (get_or ps k idle_place).view in
      let seen = cell_more (between c (get_or ps r idle_place).view) (between c W)
      (between_later c (get_or ps r idle_place).view W (oldest.least k (omega arith) o)) cs e in
      ap (λ (b : Bool). leb c.commit W && not b) seen ∙ and-false (leb c.commit W)

  pub none_keep : has_cell (between c (get_or ps r idle_place).view) cs ≡ true → has_place (keeps_at cs c) ps ≡ false
  none_keep e = no_place (keeps_at cs c) ps (λ k l. past_view e k l (is_open (get_or ps k idle_place).state) refl)

  pub some_keeps : is_open (get_or ps r idle_place).state ≡ true → keeps cs c (get_or ps r idle_place).view ≡ true
      → has_place (keeps_at cs c) ps ≡ true
  some_keeps o e = a_place (keeps_at cs c) ps r (omega (arith, oldest.inside)) (λ i. o i && e i)

-- WHICH PLACE IT IS

-- the number of a place that passes, and that none does
abbrev With : (Place → Bool) → List Place → Type 0
With q ps = (k : ℕ) × ((k < length ps) × (q (get_or ps k idle_place) ≡ true))

place_with : (q : Place → Bool) (ps : List Place) → list_any q ps ≡ true → With q ps
place_with q [] e = absurd (false≢true e)
place_with q (p ∷ ps) e = turn (q p) refl e (place_with q ps)
  where
    turn : (t : Bool) → q p ≡ t → (t || list_any q ps) ≡ true → (list_any q ps ≡ true → With q ps) → With q (p ∷ ps)
    turn true f g later = (0, (omega arith, f))
    turn false f g later = let a = later g in (suc a.0, (omega (arith, a.1.0), a.1.1))

abbrev Without : (Place → Bool) → List Place → Type 0
Without q ps = (k : ℕ) → k < length ps → q (get_or ps k idle_place) ≡ false

none_with : (q : Place → Bool) (ps : List Place) → list_any q ps ≡ false → Without q ps
none_with q [] e = λ k l. absurd (not-suc-le-zero l)
none_with q (p ∷ ps) e = turn (q p) refl e (none_with q ps)
  where
    turn : (t : Bool) → q p ≡ t → (t || list_any q ps) ≡ false → (list_any q ps ≡ false → Without q ps) → Without q (p ∷ ps)
    turn true f g later k l = absurd (true≢false g)
    turn false f g later zero l = f
    turn false f g later (suc k) l = later g k (le_of_suc-le-suc l)

-- a place with the least view
pub record Oldest (ps : List Place) (m : ℕ) : Type 0 where
  pub r : ℕ
  pub oldest : OldestAt ps r
  pub opened : is_open (get_or ps r idle_place).state ≡ true
  pub view : (get_or ps r idle_place).view ≡ m

pub oldest_at : (ps : List Place) (m : ℕ) → length ps ≡ all_places → oldest_view ps ≡ Some m → Oldest ps m
oldest_at ps m long e =
    let a = place_with (λ p. is_open p.state && eqb p.view m) ps (one_at ps m e) in
    let p = get_or ps a.0 idle_place in
    let same : p.view ≡ m = eqb-true p.view m (and_right (is_open p.state) (eqb p.view m) a.1.1) in
    record {
      r = a.0;
      oldest = record {
        inside = omega (arith, a.1.0);
        least = λ k l o. omega (arith, same, not_below k (omega (arith, long)) (is_open (get_or ps k idle_place).state) refl o);
      };
      opened = and_left (is_open p.state) (eqb p.view m) a.1.1;
      view = same;
    }
  where
    not_below : (k : ℕ) → k < length ps → (b : Bool) → is_open (get_or ps k idle_place).state ≡ b → b ≡ true
        → m ≤ (get_or ps k idle_place).view
    not_below k l false o f = absurd (false≢true f)
    not_below k l true o f =
        let W = (get_or ps k idle_place).view in
        ltb-false W m
        (ap (λ (b : Bool). b && ltb W m) (sym o) ∙ none_with (λ p. is_open p.state && ltb p.view m) ps (none_below ps (Some m) e) k l)

module _ (ps : List Place) (long : length ps ≡ all_places) (cs : List Cell) (c : Cell) where
  pub past_least : (o : Option ℕ) → has_cell (between c (unwrap_or o 0)) cs ≡ true → oldest_view ps ≡ o → has_place (keeps_at cs c) ps ≡ false
  past_least None past e = none_past ps cs c None past e
  past_least (Some m) past e =
      let a = oldest_at ps m long e in
      none_keep ps a.r a.oldest long cs c (ap (λ (v : ℕ). has_cell (between c v) cs) a.view ∙ past)

  pub kept_least : (view : ℕ) → oldest_view ps ≡ Some view → keeps cs c view ≡ true → has_place (keeps_at cs c) ps ≡ true
  kept_least view e k =
      let a = oldest_at ps view long e in
      some_keeps ps a.r a.oldest long cs c a.opened (ap (keeps cs c) a.view ∙ k)

-- A PREPARED WRITER

-- without a foreign cell of the key nothing is held back
module _ (key number : ℕ) (ps : List Place) (cs : List Cell) where
  foreign_too : (other : ℕ) (d : Cell) → foreign_of key number other d ≡ true → (of_key key d && foreign number d) ≡ true
  foreign_too other d = both (of_key key d) (foreign number d) (eqb d.number other)
    where
      both : (a b e : Bool) → (a && (b && e)) ≡ true → (a && b) ≡ true
      both false b e t = t
      both true false e t = t
      both true true e t = refl

  foreign_seen : (other : ℕ) → foreign_with key number other cs ≡ true → has_foreign key number cs ≡ true
  unfolding has_foreign foreign_with
  foreign_seen other e = cell_more (foreign_of key number other) (λ c. of_key key c && foreign number c) (foreign_too other) cs e

  pub none_back : has_foreign key number cs ≡ false → held_back key number ps cs ≡ false
  unfolding held_back
  none_back h = sym (has_is_any (holds_back key number cs) ps) ∙ by_held (list_any (holds_back key number cs) ps) refl
    where
      foreign_at : (p : Place) → holds_back key number cs p ≡ true → has_foreign key number cs ≡ true
      foreign_at p e = foreign_seen p.number (and_right (is_prepared p.state) (foreign_with key number p.number cs) e)

      by_held : (b : Bool) → list_any (holds_back key number cs) ps ≡ b → b ≡ false
      by_held false e = refl
      by_held true e =
          let a = Any-from_list_any (holds_back key number cs) ps e in
          absurd (true≢false (sym (foreign_at a.1 a.4) ∙ h))

  pub held_if : (has_foreign key number cs && held_back key number ps cs) ≡ held_back key number ps cs
  held_if = by_foreign (has_foreign key number cs) refl
    where
      by_foreign : (b : Bool) → has_foreign key number cs ≡ b → (b && held_back key number ps cs) ≡ held_back key number ps cs
      by_foreign true e = refl
      by_foreign false e = sym (none_back e)
