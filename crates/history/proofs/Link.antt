-- The link between a board and the ledger of its history. A board is its record b and the cells cs of its words.
-- Assumes nothing.
use mathlib.Core.Path.{◌≡◌, refl, sym, ap, ◌∙◌}
use mathlib.Core.Logic.{◌⊎◌}
use mathlib.Core.Bool.{Bool, true, false, not}
use mathlib.Core.List.{List, [], ◌∷◌}
use mathlib.Core.Option.{Option, none, some}
use Prim.Native.Nat.{ℕ, zero, suc, ◌+◌, ◌≤◌, ◌<◌}
use native.Mathlib.Nat.{le_of_suc-le-suc, not-suc-le-zero}
use native.Mathlib.Omega.{arith}
use lib.Dec.{eqb}
use lib.ListN.{length, get_or}
use borrow.Author.Tests.{not-true, eq-eqb, ne_eqb}
use Rattle.cells.specs.declared.Cell.{Cell}
use Rattle.steps.specs.declared.State.{State}
use Rattle.steps.specs.declared.Place.{Place}
use Rattle.steps.specs.declared.Board.{Board}
use Rattle.steps.specs.Record.{all_places, is_idle, idle_place, place_at}
use Rattle.steps.specs.Shape.{held, has_number, distinct}
use Rattle.history.specs.History.{Event, write, last_write, Transaction, Ledger, put}
use Rattle.steps.proofs.Tests.{by_test, and_left, and_right}
use Rattle.history.proofs.Basics.{clash, or_left, or_right, none_some}
use Rattle.history.proofs.Facts.{cell_at, Draft, Version}
use Rattle.history.proofs.Leave.{wrote_at}

-- LEDGERS

pub put_same : (f : ℕ → Transaction) (p : ℕ) (r : Transaction) (q : ℕ) → q ≡ p → put f p r q ≡ r
put_same f p r q e = rw (eq-eqb q p e)

pub put_other : (f : ℕ → Transaction) (p : ℕ) (r : Transaction) (q : ℕ) → (q ≡ p → ⊥) → put f p r q ≡ f q
put_other f p r q e = rw (ne_eqb q p e)

pub write_same : (es : List Event) (k v j : ℕ) → j ≡ k → last_write (write k v ∷ es) j ≡ some v
write_same es k v j e = rw (eq-eqb j k e)

pub write_other : (es : List Event) (k v j : ℕ) → (j ≡ k → ⊥) → last_write (write k v ∷ es) j ≡ last_write es j
write_other es k v j e = rw (ne_eqb j k e)

-- the last write of the transaction at a place
abbrev pub wrote : Ledger → ℕ → ℕ → Option ℕ
wrote L p k = last_write (L.at p).did k

-- THE LINK

-- the place is not idle
abbrev pub busy : Place → Bool
busy x = not (is_idle x.state)

pub record Matches (x : Place) (r : Transaction) : Type 0 where
  pub state : x.state ≡ r.state
  pub view : x.view ≡ r.seen
  pub blank : r.state ≡ State.Idle → (k : ℕ) → last_write r.did k ≡ none

-- a number of commits up to which somebody reads, now or after a start
abbrev pub Live : Board → ℕ → Type 0
Live b w = (w ≡ b.commits) ⊎ ((p : ℕ) × (p < all_places) × ((place_at b p).state ≡ State.Open) × ((place_at b p).view ≡ w))

-- a cell of the key that w shows, numbered above m
pub record Shows (cs : List Cell) (w m k : ℕ) : Type 0 where
  pub cell : ℕ
  pub word : (cell_at cs cell).word ≡ k + 1
  pub above : m < (cell_at cs cell).commit
  pub within : (cell_at cs cell).commit ≤ w

pub record Linked (b : Board) (cs : List Cell) (L : Ledger) : Type 0 where
  pub numbers : distinct (held b.places) ≡ true
  pub sixteen : length b.places ≡ all_places
  pub counted : b.commits ≡ length L.past
  pub begun : b.starts ≡ L.starts
  pub placed : (p : ℕ) → p < all_places → Matches (place_at b p) (L.at p)
  pub seen : (p : ℕ) → p < all_places → (L.at p).seen ≤ length L.past
  -- each cell tells the truth
  pub drafts : (i k : ℕ) → (cell_at cs i).word ≡ k + 1 → (cell_at cs i).commit ≡ 0
      → (p : ℕ) × (p < all_places) × ((place_at b p).number ≡ (cell_at cs i).number) × (wrote L p k ≡ some (cell_at cs i).value)
  pub pasts : (i k m : ℕ) → (cell_at cs i).word ≡ k + 1 → (cell_at cs i).commit ≡ m + 1
      → (m < length L.past) × (wrote_at L.past m k ≡ some (cell_at cs i).value)
  -- each write that somebody can still see is in a cell, or a later one of the key is that the same view shows
  pub drafted : (p k v : ℕ) → p < all_places → wrote L p k ≡ some v → (i : ℕ) × Draft (cell_at cs i) (place_at b p).number k
  pub kept : (w : ℕ) → Live b w → (m k v : ℕ) → m < w → wrote_at L.past m k ≡ some v → Shows cs w m k
  -- a transaction has one cell for a key, and so has a commit (the latter for the exactness of FULL alone)
  pub single : (i j t k : ℕ) → Draft (cell_at cs i) t k → Draft (cell_at cs j) t k → i ≡ j
  pub unique : (i j k m : ℕ) → Version (cell_at cs i) m k → Version (cell_at cs j) m k → i ≡ j

-- NUMBERS TELL PLACES APART

abbrev pub at : List Place → ℕ → Place
at l p = get_or l p idle_place

has_held : (l : List Place) (q n : ℕ) → q < length l → busy (at l q) ≡ true → (at l q).number ≡ n → has_number n (held l) ≡ true
has_held [] q n h b e = absurd (not-suc-le-zero h)
has_held (x ∷ xs) zero n h b e = rw (not-true (is_idle x.state) b) (or_left (eqb x.number n) (has_number n (held xs)) (eq-eqb _ _ e))
has_held (x ∷ xs) (suc q) n h b e =
    let ih = has_held xs q n (le_of_suc-le-suc h) b e in
    by_test (λ (l : List Place). has_number n l ≡ true) (is_idle x.state)
    (λ _. ih)
    (λ _. or_right (eqb x.number n) (has_number n (held xs)) ih)

rest : (x : Place) (xs : List Place) → distinct (held (x ∷ xs)) ≡ true → distinct (held xs) ≡ true
rest x xs =
    by_test (λ (l : List Place). distinct l ≡ true → distinct (held xs) ≡ true) (is_idle x.state)
    (λ _ d. d)
    (λ _ d. and_right (not (has_number x.number (held xs))) (distinct (held xs)) d)

first : (x : Place) (xs : List Place) → busy x ≡ true → distinct (held (x ∷ xs)) ≡ true → has_number x.number (held xs) ≡ false
first x xs =
    by_test (λ (l : List Place). busy x ≡ true → distinct l ≡ true → has_number x.number (held xs) ≡ false) (is_idle x.state)
    (λ i b _. clash i (not-true _ b))
    (λ _ _ d. not-true _ (and_left (not (has_number x.number (held xs))) (distinct (held xs)) d))

distinct_at : (l : List Place) (p q : ℕ) → distinct (held l) ≡ true → p < length l → q < length l
    → busy (at l p) ≡ true → busy (at l q) ≡ true → (at l p).number ≡ (at l q).number → p ≡ q
distinct_at [] p q d hp hq bp bq e = absurd (not-suc-le-zero hp)
distinct_at (x ∷ xs) zero zero d hp hq bp bq e = refl
distinct_at (x ∷ xs) zero (suc q) d hp hq bp bq e = clash (has_held xs q x.number (le_of_suc-le-suc hq) bq (sym e)) (first x xs bp d)
distinct_at (x ∷ xs) (suc p) zero d hp hq bp bq e = clash (has_held xs p x.number (le_of_suc-le-suc hp) bp e) (first x xs bq d)
distinct_at (x ∷ xs) (suc p) (suc q) d hp hq bp bq e =
    ap suc (distinct_at xs p q (rest x xs d) (le_of_suc-le-suc hp) (le_of_suc-le-suc hq) bp bq e)

not_idle : (s : State) → (s ≡ State.Idle → ⊥) → not (is_idle s) ≡ true
not_idle State.Idle h = absurd (h refl)
not_idle State.Open h = refl
not_idle State.Spoiled h = refl
not_idle State.Prepared h = refl

module _ (b : Board) (cs : List Cell) (L : Ledger) (𝓛 : Linked b cs L) where
  -- who wrote is not idle
  pub writer_busy : (p k v : ℕ) → p < all_places → wrote L p k ≡ some v → busy (place_at b p) ≡ true
  writer_busy p k v l e =
      not_idle (place_at b p).state
      (λ s. none_some (wrote L p k) v ((𝓛.placed p l).blank (sym (𝓛.placed p l).state ∙ s) k) e)

  pub same_place : (p q : ℕ) → p < all_places → q < all_places → busy (place_at b p) ≡ true → busy (place_at b q) ≡ true
      → (place_at b p).number ≡ (place_at b q).number → p ≡ q
  same_place p q lp lq bp bq e =
      distinct_at b.places p q 𝓛.numbers (omega (arith, 𝓛.sixteen)) (omega (arith, 𝓛.sixteen)) bp bq e

  -- an own cell has the transaction's last write to the key
  pub own_cell : (p i k : ℕ) → p < all_places → busy (place_at b p) ≡ true → Draft (cell_at cs i) (place_at b p).number k
      → wrote L p k ≡ some (cell_at cs i).value
  own_cell p i k l h d =
      let r = 𝓛.drafts i k d.word d.commit in
      let e : r.0 ≡ p = same_place r.0 p r.1 l (writer_busy r.0 k (cell_at cs i).value r.1 r.3) h (r.2 ∙ d.number) in
      rw e at r.3
