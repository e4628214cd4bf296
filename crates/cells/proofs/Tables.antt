-- The tables of newest numbers: what a turn of their pass does, and that they keep their promise, `tables_tell`.
-- Assumes nothing.
use mathlib.Core.Path.{◌≡◌, refl, sym, ap, ◌∙◌}
use mathlib.Core.Bool.{Bool, true, false, cond, not, ◌&&◌, ◌||◌, and-false, and_comm, or-false, or_assoc}
use mathlib.Core.List.{List, [], ◌∷◌}
use Prim.Native.Nat.{ℕ, ◌≤◌, ◌<◌}
use native.Mathlib.Omega.{arith}
use borrow.Author.Tests.{ltb-true, ltb-false, lt-ltb, le-ltb, eqb-true, eqb-false, ne_eqb}
use lib.Dec.{eqb, ltb, leb}
use lib.ListN.{length, get_or, set, replicate, length-set, length-replicate, get_or-replicate}
use lib.Seq.{get_or-set_same, get_or-set_other}
use Rattle.cells.specs.declared.Cell.{Cell}
use Rattle.cells.specs.Cells.{empty, committed}
use Rattle.cells.specs.Rules.{has_cell, newer, between, keeps}
use Rattle.cells.specs.Tables.{all_tops, raised, raised_by, tops_from, tops_of, any_cell, up_to}
use Rattle.cells.specs.Tables.{outdated_by, surpassed_in, held_in, TablesTell}

-- THE PASS

module _ (t : List ℕ) (w n : ℕ) where
  abbrev chosen : Bool → List ℕ
  chosen b = cond b (set t w n) t

  -- an uncommitted cell leaves every table as it is
  raise_none : n ≡ 0 → t ≡ raised t w n
  raise_none e =
      let below : ltb (get_or t w 0) n ≡ false = le-ltb (get_or t w 0) n (omega arith) in
      sym ((λ i. chosen (ltb w all_tops && below i)) ∙ ap chosen (and-false (ltb w all_tops)))

  length_raised : length (raised t w n) ≡ length t
  length_raised = same (ltb w all_tops && ltb (get_or t w 0) n)
    where
      same : (b : Bool) → length (chosen b) ≡ length t
      same true = length-set t w n
      same false = refl

pub uncommitted_leaves : (p : Cell → Bool) (t : List ℕ) (c : Cell) → c.commit ≡ 0 → t ≡ raised_by p t c
uncommitted_leaves p t c e = by_test (p c)
  where
    by_test : (b : Bool) → t ≡ cond b (raised t c.word c.commit) t
    by_test true = raise_none t c.word c.commit e
    by_test false = refl

module _ (p : Cell → Bool) (t : List ℕ) (cs : List Cell) where
  -- a turn whose cell is c, and which leaves the table r
  pub tops_next : (c : Cell) (left : List Cell) → cs ≡ c ∷ left → (r : List ℕ) → r ≡ raised_by p t c → tops_from p t cs ≡ tops_from p r left
  unfolding tops_from
  tops_next c left e r q = ap (tops_from p t) e ∙ ap (λ (u : List ℕ). tops_from p u left) (sym q)

  pub tops_end : cs ≡ [] → tops_from p t cs ≡ t
  unfolding tops_from
  tops_end e = ap (tops_from p t) e

-- WHAT A TABLE TELLS

-- of two numbers, the higher is above n if one of them is
higher_second : (n a b : ℕ) (t : Bool) → ltb n a ≡ t → a < b → ltb n b ≡ (t || ltb n b)
higher_second n a b true e h = lt-ltb n b (omega (arith, ltb-true n a e))
higher_second n a b false e h = refl

higher_first : (n a b : ℕ) (t : Bool) → ltb n a ≡ t → b ≤ a → t ≡ (t || ltb n b)
higher_first n a b true e h = refl
higher_first n a b false e h = sym (le-ltb n b (omega (arith, ltb-false n a e)))

-- after one more number a word's is above n if it was, or if the number is the word's and above n
module _ (t : List ℕ) (w n : ℕ) (g : w < all_tops) (h : w < length t) (v m : ℕ) where
  abbrev at : Bool → ℕ
  at b = get_or (cond b (set t v m) t) w 0

  raised_here : (b : Bool) → ltb (get_or t v 0) m ≡ b → v ≡ w → ltb n (at b) ≡ (ltb n (get_or t w 0) || ltb n m)
  raised_here true e q =
      let stored : at true ≡ m = ap (λ (k : ℕ). get_or (set t k m) w 0) q ∙ get_or-set_same t w m 0 h in
      let below : get_or t w 0 < m = ltb-true (get_or t w 0) m (sym (ap (λ (k : ℕ). ltb (get_or t k 0) m) q) ∙ e) in
      ap (ltb n) stored ∙ higher_second n (get_or t w 0) m (ltb n (get_or t w 0)) refl below
  raised_here false e q =
      let above : m ≤ get_or t w 0 = ltb-false (get_or t w 0) m (sym (ap (λ (k : ℕ). ltb (get_or t k 0) m) q) ∙ e) in
      higher_first n (get_or t w 0) m (ltb n (get_or t w 0)) refl above

  raised_other : (b : Bool) → (v ≡ w → ⊥) → ltb n (at b) ≡ ltb n (get_or t w 0)
  raised_other true q = ap (ltb n) (get_or-set_other t v w m 0 (λ e. q (sym e)))
  raised_other false q = refl

  raised_at : (b : Bool) → eqb v w ≡ b → ltb n (get_or (raised t v m) w 0) ≡ (ltb n (get_or t w 0) || (b && ltb n m))
  raised_at true e =
      let q = eqb-true v w e in
      let inside : ltb v all_tops ≡ true = lt-ltb v all_tops (omega arith) in
      ap (λ (b : Bool). ltb n (at (b && ltb (get_or t v 0) m))) inside ∙ raised_here (ltb (get_or t v 0) m) refl q
  raised_at false e =
      raised_other (ltb v all_tops && ltb (get_or t v 0) m) (eqb-false v w e) ∙ sym (or-false (ltb n (get_or t w 0)))

-- a cell of that first word that passes the test, with a number above n
abbrev over : (Cell → Bool) → ℕ → ℕ → Cell → Bool
over p w n d = p d && (eqb d.word w && ltb n d.commit)

module _ (p : Cell → Bool) (w n : ℕ) (g : w < all_tops) where
  by_at : (t : List ℕ) (c : Cell) → w < length t → (b : Bool)
      → ltb n (get_or (cond b (raised t c.word c.commit) t) w 0)
      ≡ (ltb n (get_or t w 0) || (b && (eqb c.word w && ltb n c.commit)))
  by_at t c h true = raised_at t w n g h c.word c.commit (eqb c.word w) refl
  by_at t c h false = sym (or-false (ltb n (get_or t w 0)))

  length_by : (t : List ℕ) (c : Cell) (b : Bool) → length (cond b (raised t c.word c.commit) t) ≡ length t
  length_by t c true = length_raised t c.word c.commit
  length_by t c false = refl

  tops_at : (cs : List Cell) (t : List ℕ) → w < length t
      → ltb n (get_or (tops_from p t cs) w 0) ≡ (ltb n (get_or t w 0) || has_cell (over p w n) cs)
  unfolding tops_from has_cell
  tops_at [] t h = sym (or-false (ltb n (get_or t w 0)))
  tops_at (c ∷ cs) t h =
      let same = length_by t c (p c) in
      tops_at cs (raised_by p t c) (omega arith)
      ∙ ap (λ (b : Bool). b || has_cell (over p w n) cs) (by_at t c h (p c))
      ∙ or_assoc (ltb n (get_or t w 0)) (over p w n c) (has_cell (over p w n) cs)

  -- the whole table: a word's number is above n if one of the word's cells is
  tops_tell : (cs : List Cell) → ltb n (get_or (tops_of p cs) w 0) ≡ has_cell (over p w n) cs
  unfolding tops_of
  tops_tell cs =
      let none : ltb n (get_or (replicate all_tops 0) w 0) ≡ false =
      ap (ltb n) (get_or-replicate all_tops w 0 0 g) ∙ le-ltb n 0 (omega arith) in
      tops_at cs (replicate all_tops 0) (omega (arith, length-replicate {A = ℕ} all_tops 0))
      ∙ ap (λ (b : Bool). b || has_cell (over p w n) cs) none

-- tests that agree of every cell find the same
has_same : (p q : Cell → Bool) → ((d : Cell) → p d ≡ q d) → (cs : List Cell) → has_cell p cs ≡ has_cell q cs
unfolding has_cell
has_same p q e [] = refl
has_same p q e (d ∷ cs) = λ i. e d i || has_same p q e cs i

-- what is higher than a nonempty cell of its first word is a committed cell of its key
module _ (c d : Cell) (e : empty c ≡ false) where
  by_word : (a b : Bool) → eqb d.word c.word ≡ a → ltb c.commit d.commit ≡ b → (a && b) ≡ (a && committed d && b)
  by_word false b p q = refl
  by_word true false p q = sym (and-false (committed d))
  by_word true true p q =
      let same = eqb-true d.word c.word p in
      let filled : empty d ≡ false = ne_eqb d.word 0 (λ z. eqb-false c.word 0 e (sym same ∙ z)) in
      let high : ltb 0 d.commit ≡ true = lt-ltb 0 d.commit (omega (arith, ltb-true c.commit d.commit q)) in
      sym (λ i. not (filled i) && high i && true)

  over_newer : over any_cell c.word c.commit d ≡ newer c d
  over_newer = by_word (eqb d.word c.word) (ltb c.commit d.commit) refl refl

  over_between : (view : ℕ) → over (up_to view) c.word c.commit d ≡ between c view d
  over_between view =
      and_comm (up_to view d) (eqb d.word c.word && ltb c.commit d.commit)
      ∙ ap (λ (b : Bool). b && up_to view d) over_newer

-- the promise: the tables of a board tell of every nonempty cell whether it is outdated, and whether a view keeps it
module _ (cs : List Cell) (c : Cell) (e : empty c ≡ false) where
  outdated_is : outdated_by (tops_of any_cell cs) cs c ≡ has_cell (newer c) cs
  unfolding outdated_by
  outdated_is = by_size (ltb c.word all_tops) refl
    where
      by_size : (b : Bool) → ltb c.word all_tops ≡ b
          → cond b (ltb c.commit (get_or (tops_of any_cell cs) c.word 0)) (has_cell (newer c) cs) ≡ has_cell (newer c) cs
      by_size false p = refl
      by_size true p =
          tops_tell any_cell c.word c.commit (ltb-true c.word all_tops p) cs
          ∙ has_same (over any_cell c.word c.commit) (newer c) (λ d. over_newer c d e) cs

  module _ (view : ℕ) where
    passed_is : ltb c.word all_tops ≡ true
        → ltb c.commit (get_or (tops_of (up_to view) cs) c.word 0) ≡ has_cell (between c view) cs
    passed_is p =
        tops_tell (up_to view) c.word c.commit (ltb-true c.word all_tops p) cs
        ∙ has_same (over (up_to view) c.word c.commit) (between c view) (λ d. over_between c d e view) cs

    surpassed_is : surpassed_in (tops_of (up_to view) cs) c ≡ (ltb c.word all_tops && has_cell (between c view) cs)
    unfolding surpassed_in
    surpassed_is = by_size (ltb c.word all_tops) refl
      where
        by_size : (b : Bool) → ltb c.word all_tops ≡ b
            → cond b (ltb c.commit (get_or (tops_of (up_to view) cs) c.word 0)) false ≡ (b && has_cell (between c view) cs)
        by_size false p = refl
        by_size true p = passed_is p

    held_is : held_in (tops_of (up_to view) cs) c view ≡ (ltb c.word all_tops && keeps cs c view)
    unfolding held_in
    held_is = by_size (ltb c.word all_tops) refl
      where
        by_size : (b : Bool) → ltb c.word all_tops ≡ b
            → cond b (leb c.commit view && not (ltb c.commit (get_or (tops_of (up_to view) cs) c.word 0))) false
            ≡ (b && keeps cs c view)
        by_size false p = refl
        by_size true p = ap (λ (b : Bool). leb c.commit view && not b) (passed_is p)

  pub tables_tell : TablesTell cs c
  tables_tell = record { outdated = outdated_is; surpassed = surpassed_is; held = held_is }
