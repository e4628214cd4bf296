-- FULL by the history alone: no cell is free exactly when as many different writes are still needed as there are cells.
--     full_packed, packed_full     the two directions
-- Assumes nothing.
use Rattle.std.specs.Prelude.{Option, Some, None}
use mathlib.Core.Path.{◌≡◌, refl, sym, ap, ◌∙◌, subst}
use mathlib.Core.Logic.{◌⊎◌, inl, inr}
use mathlib.Core.Bool.{Bool, true, false, cond, not, ◌&&◌, false≢true}
use mathlib.Core.List.{List}
use mathlib.Core.Option.{some}
use Prim.Native.Nat.{ℕ, zero, suc, ◌+◌, ◌≤◌, ◌<◌}
use native.Mathlib.Nat.{not-suc-le-zero}
use native.Mathlib.Omega.{arith}
use lib.Dec.{leb, eqb}
use lib.ListN.{length}
use borrow.Author.Tests.{le-leb, leb-true, eq-eqb, ne_eqb, not-true, not-false}
use Rattle.cells.specs.declared.Cell.{Cell}
use Rattle.cells.specs.Cells.{empty, committed}
use Rattle.cells.specs.Rules.{has_cell, newer, between, keeps}
use Rattle.cells.proofs.Meaning.{has_none, none_has, lowest_found, lowest_none}
use Rattle.steps.specs.declared.State.{State}
use Rattle.steps.specs.declared.Board.{Board}
use Rattle.steps.specs.Record.{all_places, is_open, place_at}
use Rattle.steps.specs.Spent.{has_place, keeps_at, spent, free, reusable}
use Rattle.steps.specs.Step.{number_at, view_at}
use Rattle.steps.proofs.Tests.{two, and_both as both, and_left, and_right, or_neither, or_left as neither_left, or_right as neither_right}
use Rattle.history.specs.History.{Ledger, Wrote, done_at}
use Rattle.history.specs.Verdict.{Item, unfinished, version, Last, Needed, Packed}
use Rattle.history.proofs.Basics.{cases, eq?, lt?, clash, none?, none_some, pos, and_false, place_found, some_place}
use Rattle.history.proofs.Facts.{cell_at, in_cells, Draft, Version, committed_of, newer_facts, newer_of, between_facts, spent_facts}
use Rattle.history.proofs.Leave.{wrote_at}
use Rattle.history.proofs.Link.{Live, Linked, writer_busy, same_place}

-- PIGEONS

swap : (ℕ → ℕ) → ℕ → ℕ → ℕ
swap c n i = cond (eqb (c i) n) (c (suc n)) (c i)

swap_same : (c : ℕ → ℕ) (n i : ℕ) → c i ≡ n → swap c n i ≡ c (suc n)
unfolding swap
swap_same c n i e = rw (eq-eqb (c i) n e)

swap_other : (c : ℕ → ℕ) (n i : ℕ) → (c i ≡ n → ⊥) → swap c n i ≡ c i
unfolding swap
swap_other c n i e = rw (ne_eqb (c i) n e)

-- n + 1 different numbers are not all below n
pigeons : (n : ℕ) (c : ℕ → ℕ) → ((i : ℕ) → i ≤ n → c i < n) → ((i j : ℕ) → i ≤ n → j ≤ n → c i ≡ c j → i ≡ j) → ⊥
pigeons zero c low inj = not-suc-le-zero (low 0 (omega arith))
pigeons (suc n) c low inj = pigeons n (swap c n) low' inj'
  where
    low' : (i : ℕ) → i ≤ n → swap c n i < n
    low' i h = cases (eq? (c i) n)
        (λ e. rw (swap_same c n i e)
        (let a = low (suc n) (omega arith) in
        let d : c (suc n) ≡ n → ⊥ = λ g. let z : i ≡ suc n = inj i (suc n) (omega arith) (omega arith) (e ∙ sym g) in omega arith in
        omega (arith, a, d)))
        (λ e. rw (swap_other c n i e) (let a = low i (omega arith) in omega (arith, a, e)))

    inj' : (i j : ℕ) → i ≤ n → j ≤ n → swap c n i ≡ swap c n j → i ≡ j
    inj' i j h g e = cases (eq? (c i) n)
        (λ x. cases (eq? (c j) n)
        (λ y. inj i j (omega arith) (omega arith) (x ∙ sym y))
        (λ y. absurd (let z : suc n ≡ j = inj (suc n) j (omega arith) (omega arith) (sym (swap_same c n i x) ∙ e ∙ swap_other c n j y) in omega arith)))
        (λ x. cases (eq? (c j) n)
        (λ y. absurd (let z : i ≡ suc n = inj i (suc n) (omega arith) (omega arith) (sym (swap_other c n i x) ∙ e ∙ swap_same c n j y) in omega arith))
        (λ y. inj i j (omega arith) (omega arith) (sym (swap_other c n i x) ∙ e ∙ swap_other c n j y)))

-- TESTS

open_by : (s : State) → is_open s ≡ true → s ≡ State.Open
open_by State.Idle e = absurd (false≢true e)
open_by State.Open e = refl
open_by State.Spoiled e = absurd (false≢true e)
open_by State.Prepared e = absurd (false≢true e)

false_second : (x y z : Bool) → y ≡ false → (x && y && z) ≡ false
false_second true y z e = cc
false_second false y z e = refl

false_third : (x y z : Bool) → z ≡ false → (x && y && z) ≡ false
false_third true true z e = e
false_third true false z e = refl
false_third false y z e = refl

none_below : (t : Cell → Bool) (cs : List Cell) → ((i : ℕ) → i < length cs → t (cell_at cs i) ≡ true → ⊥) → has_cell t cs ≡ false
none_below t cs f = none_has t cs (λ i h. cases (two (t (cell_at cs i))) (λ e. absurd (f i h e)) (λ e. e))

module _ (b : Board) (cs : List Cell) (L : Ledger) (𝓛 : Linked b cs L) where
  -- the cell carries the item
  abbrev Carries : Cell → Item → Type 0
  Carries c (unfinished p k) = Draft c (number_at b p) k
  Carries c (version m k) = Version c m k

  abbrev kept_by : Cell → Bool
  kept_by c = has_place (keeps_at cs c) b.places

  -- no later cell is within w: no later write is
  no_later_write : (i m k w : ℕ) → Live b w → Version (cell_at cs i) m k
      → ((j : ℕ) → j < length cs → newer (cell_at cs i) (cell_at cs j) ≡ true → (cell_at cs j).commit ≤ w → ⊥) → Last L m k w
  no_later_write i m k w live v n j h g = cases (none? (wrote_at L.past j k)) (λ e. e)
      (λ s. absurd
      (let r = 𝓛.kept w live j k s.0 g s.1 in
      n r.cell (in_cells cs r.cell k r.word)
      (newer_of (cell_at cs i) (cell_at cs r.cell) k v.word r.word (omega (arith, v.commit, r.above)))
      r.within))

  -- no later write is within w: no later cell is
  no_later_cell : (i m k w : ℕ) → Version (cell_at cs i) m k → Last L m k w → (j : ℕ) → newer (cell_at cs i) (cell_at cs j) ≡ true
      → (cell_at cs j).commit ≤ w → ⊥
  no_later_cell i m k w v last j e h =
      let f = newer_facts (cell_at cs i) (cell_at cs j) e in
      let u = pos (cell_at cs j).commit (omega (arith, f.1)) in
      let r = 𝓛.pasts j k u.0 (f.0 ∙ v.word) u.1 in
      none_some (wrote_at L.past u.0 k) (cell_at cs j).value
      (last u.0 (omega (arith, v.commit, u.1, f.1)) (omega (arith, u.1))) r.1

  -- A CELL THAT IS NOT FREE CARRIES A NEEDED WRITE
  Taken : ℕ → Type 0
  Taken i = (x : Item) × Needed L x × Carries (cell_at cs i) x

  -- an open place that keeps the version sees it as the key's last
  shown_to : (i m k q : ℕ) → Version (cell_at cs i) m k → q < all_places → keeps_at cs (cell_at cs i) (place_at b q) ≡ true
      → ((L.at q).state ≡ State.Open) × (m < (L.at q).seen) × Last L m k (L.at q).seen
  shown_to i m k q v l e =
      let c = cell_at cs i in
      let w = view_at b q in
      let g = and_right (is_open (place_at b q).state) (keeps cs c w) e in
      let o = open_by (place_at b q).state (and_left (is_open (place_at b q).state) (keeps cs c w) e) in
      let le = leb-true c.commit w (and_left (leb c.commit w) (not (has_cell (between c w) cs)) g) in
      let n = has_none (between c w) cs (not-true _ (and_right (leb c.commit w) (not (has_cell (between c w) cs)) g)) in
      let a = 𝓛.placed q l in
      let last : Last L m k w =
      no_later_write i m k w (inr (q, l, o, refl)) v (λ j h t h'. clash (both t (le-leb (cell_at cs j).commit w h')) (n j h)) in
      (sym a.state ∙ o, omega (arith, le, v.commit, a.view), subst (λ (n : ℕ). Last L m k n) a.view last)

  version_taken : (i m k : ℕ) → Version (cell_at cs i) m k → spent b.places cs (cell_at cs i) ≡ false → Taken i
  unfolding Taken
  version_taken i m k v e =
      let c = cell_at cs i in
      let r = 𝓛.pasts i k m v.word v.commit in
      let w : Wrote (done_at L m).did k = (c.value, r.1) in
      cases (two (has_cell (newer c) cs))
      (λ t.
      let front = both (committed_of c k v.word (omega (arith, v.commit))) t in
      let g = place_found (keeps_at cs c) b.places
      (not-false _ (and_false (committed c && has_cell (newer c) cs) (not (kept_by c)) e front)) in
      let l : g.at < all_places = omega (arith, g.inside, 𝓛.sixteen) in
      let s = shown_to i m k g.at v l g.passes in
      (version m k, (r.0, w, inr (g.at, l, s.0, s.1, s.2)), v))
      (λ t.
      let last : Last L m k b.commits =
      no_later_write i m k b.commits (inl refl) v (λ j h u _. clash u (has_none (newer c) cs t j h)) in
      (version m k, (r.0, w, inl (subst (λ (n : ℕ). Last L m k n) 𝓛.counted last)), v))

  taken : (i : ℕ) → free b.places cs (cell_at cs i) ≡ false → Taken i
  unfolding Taken
  taken i e = go (cell_at cs i).word (cell_at cs i).commit refl refl
    where
      go : (w n : ℕ) → (cell_at cs i).word ≡ w → (cell_at cs i).commit ≡ n → Taken i
      go zero n f g = clash (eq-eqb _ _ f) (neither_left (empty (cell_at cs i)) (spent b.places cs (cell_at cs i)) e)
      go (suc k) zero f g =
          let word : (cell_at cs i).word ≡ k + 1 = omega arith in
          let r = 𝓛.drafts i k word g in
          (unfinished r.0 k, (r.1, ((cell_at cs i).value, r.3)), record { word = word; commit = g; number = sym r.2 })
      go (suc k) (suc m) f g =
          version_taken i m k (record { word = omega arith; commit = omega arith })
          (neither_right (empty (cell_at cs i)) (spent b.places cs (cell_at cs i)) e)

  -- A NEEDED WRITE IS IN A CELL THAT IS NOT FREE
  Holds : Item → Type 0
  Holds x = (i : ℕ) × (i < length cs) × (free b.places cs (cell_at cs i) ≡ false) × Carries (cell_at cs i) x

  not_free : (i k : ℕ) → (cell_at cs i).word ≡ k + 1 → spent b.places cs (cell_at cs i) ≡ false → free b.places cs (cell_at cs i) ≡ false
  not_free i k e s = or_neither (ne_eqb (cell_at cs i).word 0 (λ z. omega arith)) s

  -- the cell that `kept` gives is the very version, where no later write is within w
  exact : (w : ℕ) → Live b w → (m k v : ℕ) → m < w → wrote_at L.past m k ≡ some v → Last L m k w → (i : ℕ) × Version (cell_at cs i) m k
  exact w live m k v h e last =
      let r = 𝓛.kept w live m k v h e in
      let u = pos (cell_at cs r.cell).commit (omega (arith, r.above)) in
      let p = 𝓛.pasts r.cell k u.0 r.word u.1 in
      cases (eq? u.0 m)
      (λ z. (r.cell, record { word = r.word; commit = u.1 ∙ ap (λ (n : ℕ). n + 1) z }))
      (λ z. none_some (wrote_at L.past u.0 k) (cell_at cs r.cell).value
      (last u.0 (omega (arith, r.above, u.1, z)) (omega (arith, r.within, u.1))) p.1)

  holds_unfinished : (p k : ℕ) → Needed L (unfinished p k) → Holds (unfinished p k)
  unfolding Holds
  holds_unfinished p k n =
      let r = 𝓛.drafted p k n.1.0 n.0 n.1.1 in
      let d = r.1 in
      let c = cell_at cs r.0 in
      let s : spent b.places cs c ≡ false =
      cases (two (spent b.places cs c)) (λ e. absurd (omega (arith, (spent_facts c b.places cs e).0, d.commit))) (λ e. e) in
      (r.0, in_cells cs r.0 k d.word, not_free r.0 k d.word s, d)

  holds_last : (m k v : ℕ) → m < b.commits → wrote_at L.past m k ≡ some v → Last L m k b.commits → Holds (version m k)
  unfolding Holds
  holds_last m k v h e last =
      let r = exact b.commits (inl refl) m k v h e last in
      let x = r.1 in
      let c = cell_at cs r.0 in
      let s : has_cell (newer c) cs ≡ false =
      none_below (newer c) cs (λ j g t.
      let f = newer_facts c (cell_at cs j) t in
      let u = pos (cell_at cs j).commit (omega (arith, f.1)) in
      let q = 𝓛.pasts j k u.0 (f.0 ∙ x.word) u.1 in
      no_later_cell r.0 m k b.commits x last j t (omega (arith, u.1, q.0, 𝓛.counted))) in (
        r.0,
        in_cells cs r.0 k x.word,
        not_free r.0 k x.word (false_second (committed c) (has_cell (newer c) cs) (not (kept_by c)) s),
        x,
      )

  holds_seen : (m k v p : ℕ) → wrote_at L.past m k ≡ some v → p < all_places → (place_at b p).state ≡ State.Open → m < view_at b p
      → Last L m k (view_at b p) → Holds (version m k)
  unfolding Holds
  holds_seen m k v p e l o h last =
      let r = exact (view_at b p) (inr (p, l, o, refl)) m k v h e last in
      let x = r.1 in
      let c = cell_at cs r.0 in
      let t : has_cell (between c (view_at b p)) cs ≡ false =
      none_below (between c (view_at b p)) cs (λ j g u.
      let f = between_facts c (cell_at cs j) (view_at b p) u in
      no_later_cell r.0 m k (view_at b p) x last j f.0 f.1) in
      let g : keeps_at cs c (place_at b p) ≡ true =
      both (ap is_open o) (both (le-leb c.commit (view_at b p) (omega (arith, x.commit, h))) (ap not t)) in
      let s : kept_by c ≡ true = some_place (keeps_at cs c) b.places p (omega (arith, l, 𝓛.sixteen)) g in (
        r.0,
        in_cells cs r.0 k x.word,
        not_free r.0 k x.word (false_third (committed c) (has_cell (newer c) cs) (not (kept_by c)) (ap not s)),
        x,
      )

  held : (x : Item) → Needed L x → Holds x
  held (unfinished p k) n = holds_unfinished p k n
  held (version m k) n = cases n.2
      (λ last. holds_last m k n.1.0 (omega (arith, n.0, 𝓛.counted)) n.1.1 (subst (λ (w : ℕ). Last L m k w) (sym 𝓛.counted) last))
      (λ y.
      let a = 𝓛.placed y.0 y.1 in
      holds_seen m k n.1.0 y.0 n.1.1 y.1 (a.state ∙ y.2) (omega (arith, y.3, a.view))
      (subst (λ (w : ℕ). Last L m k w) (sym a.view) y.4))

  -- A CELL CARRIES ONE ITEM, AND AN ITEM IS IN ONE CELL
  one_item : (c : Cell) (x y : Item) → Needed L x → Needed L y → Carries c x → Carries c y → x ≡ y
  one_item c (unfinished p k) (unfinished q j) n n' d e =
      let a : p ≡ q =
      same_place b cs L 𝓛 p q n.0 n'.0 (writer_busy b cs L 𝓛 p k n.1.0 n.0 n.1.1)
      (writer_busy b cs L 𝓛 q j n'.1.0 n'.0 n'.1.1) (sym d.number ∙ e.number) in
      let y : k ≡ j = omega (arith, d.word, e.word) in
      cc
  one_item c (unfinished p k) (version m j) n n' d e = absurd (omega (arith, d.commit, e.commit))
  one_item c (version m k) (unfinished q j) n n' d e = absurd (omega (arith, d.commit, e.commit))
  one_item c (version m k) (version l j) n n' d e =
      let y : k ≡ j = omega (arith, d.word, e.word) in
      let y' : m ≡ l = omega (arith, d.commit, e.commit) in
      cc

  one_cell : (i j : ℕ) (x : Item) → Carries (cell_at cs i) x → Carries (cell_at cs j) x → i ≡ j
  one_cell i j (unfinished p k) d e = 𝓛.single i j (number_at b p) k d e
  one_cell i j (version m k) d e = 𝓛.unique i j k m d e

  -- FULL
  pub full_packed : reusable b.places cs ≡ None → Packed (length cs) L
  unfolding Taken reusable
  full_packed e =
      record {
        item = λ i h. (at i h).0;
        needed = λ i h. (at i h).1;
        different = λ i j h g z. one_cell i j (at i h).0 (at i h).2 (subst (λ (x : Item). Carries (cell_at cs j) x) (sym z) (at j g).2);
      }
    where
      at : (i : ℕ) → i < length cs → Taken i
      at i h = taken i (lowest_none (free b.places cs) cs e i h)

  -- with a free cell f: the cells of n different needed writes, and f, would be n + 1 different cells
  module _ (P : Packed (length cs) L) (f : ℕ) (fl : f < length cs) (ff : free b.places cs (cell_at cs f) ≡ true) where
    abbrev n : ℕ
    n = length cs

    cell_of : (i : ℕ) → i < n → ℕ
    unfolding Holds
    cell_of i h = (held (P.item i h) (P.needed i h)).0

    cell_of_low : (i : ℕ) (h : i < n) → cell_of i h < n
    unfolding Holds cell_of
    cell_of_low i h = (held (P.item i h) (P.needed i h)).1

    cell_of_taken : (i : ℕ) (h : i < n) → cell_of i h ≡ f → ⊥
    unfolding Holds cell_of
    cell_of_taken i h e =
        clash (ap (λ (x : ℕ). free b.places cs (cell_at cs x)) e ∙ ff) (held (P.item i h) (P.needed i h)).2

    cell_of_inj : (i j : ℕ) (h : i < n) (g : j < n) → cell_of i h ≡ cell_of j g → i ≡ j
    unfolding Holds cell_of
    cell_of_inj i j h g e =
        P.different i j h g
        (one_item (cell_at cs (held (P.item i h) (P.needed i h)).0) (P.item i h) (P.item j g) (P.needed i h) (P.needed j g)
        (held (P.item i h) (P.needed i h)).3
        (subst (λ (x : ℕ). Carries (cell_at cs x) (P.item j g)) (sym e) (held (P.item j g) (P.needed j g)).3))

    pick : (i : ℕ) → (i < n) ⊎ (n ≤ i) → ℕ
    pick i (inl h) = cell_of i h
    pick i (inr h) = f

    pick_low : (i : ℕ) (u : (i < n) ⊎ (n ≤ i)) → pick i u < n
    unfolding pick
    pick_low i (inl h) = cell_of_low i h
    pick_low i (inr h) = fl

    pick_inj : (i j : ℕ) (u : (i < n) ⊎ (n ≤ i)) (w : (j < n) ⊎ (n ≤ j)) → i ≤ n → j ≤ n → pick i u ≡ pick j w → i ≡ j
    unfolding pick
    pick_inj i j (inl h) (inl g) a c e = cell_of_inj i j h g e
    pick_inj i j (inl h) (inr g) a c e = absurd (cell_of_taken i h e)
    pick_inj i j (inr h) (inl g) a c e = absurd (cell_of_taken j g (sym e))
    pick_inj i j (inr h) (inr g) a c e = omega arith

    too_many : ⊥
    too_many = pigeons n (λ i. pick i (lt? i n)) (λ i h. pick_low i (lt? i n)) (λ i j h g e. pick_inj i j (lt? i n) (lt? j n) h g e)

  pub packed_full : Packed (length cs) L → reusable b.places cs ≡ None
  unfolding reusable
  packed_full P = go (reusable b.places cs) refl
    where
      go : (o : Option ℕ) → reusable b.places cs ≡ o → o ≡ None
      go (Some i) e = let r = lowest_found (free b.places cs) cs i e in absurd (too_many P i r.inside r.passes)
      go None e = refl
