-- An accepted update keeps the link: over an own cell, into an empty cell, and, the hard case, into a spent one.
-- Assumes nothing.
use mathlib.Core.Path.{◌≡◌, refl, sym, ap, ◌∙◌, subst}
use mathlib.Core.Logic.{◌⊎◌, inl, inr}
use mathlib.Core.Bool.{true, not}
use mathlib.Core.List.{List}
use mathlib.Core.Option.{some}
use Prim.Native.Nat.{ℕ, ◌+◌, ◌≤◌, ◌<◌}
use native.Mathlib.Omega.{arith}
use lib.ListN.{length, set}
use lib.Seq.{get_or-set_same, get_or-set_other}
use borrow.Author.Tests.{le-leb}
use Rattle.cells.specs.declared.Cell.{Cell}
use Rattle.cells.specs.Cells.{no_cell}
use Rattle.cells.specs.Rules.{has_cell, newer, between}
use Rattle.cells.proofs.Meaning.{has_found}
use Rattle.steps.specs.declared.State.{State}
use Rattle.steps.specs.declared.Board.{Board}
use Rattle.steps.specs.Record.{all_places, is_open, place_at}
use Rattle.steps.specs.Spent.{keeps_at, spent}
use Rattle.steps.specs.Step.{draft, number_at, view_at}
use Rattle.steps.proofs.Tests.{two, and_both as both}
use Rattle.history.specs.History.{write, last_write, Transaction, doing, Ledger, put, tick}
use Rattle.history.proofs.Basics.{cases, eq?, clash, pos, some_place}
use Rattle.history.proofs.Facts.{cell_at, Draft, Version, newer_facts, between_facts, spent_facts}
use Rattle.history.proofs.Leave.{wrote_at}
use Rattle.history.proofs.Link.{put_same, put_other, write_same, write_other, wrote, Matches, Live, Shows, Linked, writer_busy, same_place}

-- w shows a cell of the key numbered above m that is not cell i
pub record Successor (cs : List Cell) (i w m k : ℕ) : Type 0 where
  pub shown : Shows cs w m k
  pub other : shown.cell ≡ i → ⊥

-- A SPENT CELL IS SEEN BY NOBODY: whatever live view shows it shows a later cell of its key
module _ (b : Board) (cs : List Cell) (L : Ledger) (𝓛 : Linked b cs L) (i : ℕ) (s : spent b.places cs (cell_at cs i) ≡ true) where
  successor : (j w m k : ℕ) → newer (cell_at cs i) (cell_at cs j) ≡ true → (cell_at cs i).word ≡ k + 1 → m < (cell_at cs i).commit
      → (cell_at cs j).commit ≤ w → Successor cs i w m k
  successor j w m k e a h g =
      let f = newer_facts (cell_at cs i) (cell_at cs j) e in
      let f₁ : (cell_at cs i).commit < (cell_at cs j).commit = f.1 in
      record {
        shown = record { cell = j; word = f.0 ∙ a; above = omega arith; within = g };
        other = λ q. let z : (cell_at cs j).commit ≡ (cell_at cs i).commit = ap (λ (n : ℕ). (cell_at cs n).commit) q in omega arith;
      }

  pub spent_successor : (w : ℕ) → Live b w → (m k : ℕ) → (cell_at cs i).word ≡ k + 1 → m < (cell_at cs i).commit
      → (cell_at cs i).commit ≤ w → Successor cs i w m k
  spent_successor w live m k a h g =
      let c = cell_at cs i in
      let f = spent_facts c b.places cs s in
      cases live
      (λ e.
      let r = has_found (newer c) cs f.1 in
      let n = newer_facts c (cell_at cs r.at) r.passes in
      let u = pos (cell_at cs r.at).commit (omega (arith, n.1)) in
      let x = 𝓛.pasts r.at k u.0 (n.0 ∙ a) u.1 in
      successor r.at w m k r.passes a h (omega (arith, u.1, x.0, 𝓛.counted)))
      (λ y. cases (two (has_cell (between c (view_at b y.0)) cs))
      (λ e.
      let r = has_found (between c (view_at b y.0)) cs e in
      let q = between_facts c (cell_at cs r.at) (view_at b y.0) r.passes in
      successor r.at w m k q.0 a h (omega (arith, q.1, y.3)))
      (λ e.
      let z : keeps_at cs c (place_at b y.0) ≡ true =
      both (ap is_open y.2) (both (le-leb c.commit (view_at b y.0) (omega (arith, y.3))) (ap not e)) in
      clash (some_place (keeps_at cs c) b.places y.0 (omega (arith, y.1, 𝓛.sixteen)) z) f.2))

-- A WRITE TO CELL i
module _ (b : Board) (cs : List Cell) (L : Ledger) (𝓛 : Linked b cs L) (p k v i : ℕ) (l : p < all_places)
    (o : (place_at b p).state ≡ State.Open) (inside : i < length cs)
    (only-own : (t j : ℕ) → Draft (cell_at cs i) t j → (j ≡ k) × (t ≡ number_at b p))
    (alone : (j : ℕ) → Draft (cell_at cs j) (number_at b p) k → j ≡ i)
    (spare : (w : ℕ) → Live b w → (m j : ℕ) → (cell_at cs i).word ≡ j + 1 → m < (cell_at cs i).commit → (cell_at cs i).commit ≤ w
    → Successor cs i w m j) where
  abbrev new : Cell
  new = draft k v (number_at b p)

  abbrev after : List Cell
  after = set cs i new

  abbrev wrote_p : Transaction
  wrote_p = doing (write k v) (L.at p)

  abbrev noted : Ledger
  noted = tick L (put L.at p wrote_p) L.past

  there : (j : ℕ) → j ≡ i → cell_at after j ≡ new
  there j e = rw e (get_or-set_same cs i new no_cell inside)

  elsewhere : (j : ℕ) → (j ≡ i → ⊥) → cell_at after j ≡ cell_at cs j
  elsewhere j e = get_or-set_other cs i j new no_cell e

  wrote' : (q j : ℕ) → ((q ≡ p) × (j ≡ k) × (wrote noted q j ≡ some v)) ⊎ ((q ≡ p → j ≡ k → ⊥) × (wrote noted q j ≡ wrote L q j))
  wrote' q j = cases (eq? q p)
      (λ e. cases (eq? j k)
      (λ f. inl (e, f, rw (put_same L.at p wrote_p q e) (write_same (L.at p).did k v j f)))
      (λ f. inr (λ _ g. f g, rw (put_same L.at p wrote_p q e) (write_other (L.at p).did k v j f ∙ rw e refl))))
      (λ e. inr (λ g _. e g, ap (λ (r : Transaction). last_write r.did j) (put_other L.at p wrote_p q e)))

  placed' : (q : ℕ) → q < all_places → Matches (place_at b q) (noted.at q)
  placed' q h = cases (eq? q p)
      (λ e. rw (put_same L.at p wrote_p q e) (rw e
      (record {
        state = (𝓛.placed p l).state;
        view = (𝓛.placed p l).view;
        blank = λ s j. absurd (let z : State.Open ≡ State.Idle = sym o ∙ (𝓛.placed p l).state ∙ s in let z' : ◌≡◌ {A = ℕ} 0 1 = cc in omega arith);
      })))
      (λ e. rw (put_other L.at p wrote_p q e) (𝓛.placed q h))

  drafts' : (j n : ℕ) → (cell_at after j).word ≡ n + 1 → (cell_at after j).commit ≡ 0
      → (q : ℕ) × (q < all_places) × ((place_at b q).number ≡ (cell_at after j).number) × (wrote noted q n ≡ some (cell_at after j).value)
  drafts' j n ek ec = cases (eq? j i)
      (λ e.
      let c = there j e in
      let z : k + 1 ≡ n + 1 = sym (ap (λ (x : Cell). x.word) c) ∙ ek in
      let f : n ≡ k = omega arith in (
        p,
        l,
        sym (ap (λ (x : Cell). x.number) c),
        rw (put_same L.at p wrote_p p refl) (write_same (L.at p).did k v n f ∙ sym (ap (λ (x : Cell). some x.value) c)),
      ))
      (λ e.
      let c = elsewhere j e in
      let ek' = sym (ap (λ (x : Cell). x.word) c) ∙ ek in
      let ec' = sym (ap (λ (x : Cell). x.commit) c) ∙ ec in
      let r = 𝓛.drafts j n ek' ec' in
      cases (wrote' r.0 n)
      (λ u. absurd (e (alone j (record {
        word = ek' ∙ ap (λ (x : ℕ). x + 1) u.1;
        commit = ec';
        number = sym r.2 ∙ ap (λ (x : ℕ). (place_at b x).number) u.0;
      }))))
      (λ u. (r.0, r.1, r.2 ∙ sym (ap (λ (x : Cell). x.number) c), u.1 ∙ r.3 ∙ sym (ap (λ (x : Cell). some x.value) c))))

  pasts' : (j n m : ℕ) → (cell_at after j).word ≡ n + 1 → (cell_at after j).commit ≡ m + 1
      → (m < length L.past) × (wrote_at L.past m n ≡ some (cell_at after j).value)
  pasts' j n m ek ec = cases (eq? j i)
      (λ e. let z : 0 ≡ m + 1 = sym (ap (λ (x : Cell). x.commit) (there j e)) ∙ ec in absurd (omega arith))
      (λ e.
      let c = elsewhere j e in
      let r = 𝓛.pasts j n m (sym (ap (λ (x : Cell). x.word) c) ∙ ek) (sym (ap (λ (x : Cell). x.commit) c) ∙ ec) in
      (r.0, r.1 ∙ sym (ap (λ (x : Cell). some x.value) c)))

  drafted' : (q n u : ℕ) → q < all_places → wrote noted q n ≡ some u → (j : ℕ) × Draft (cell_at after j) (place_at b q).number n
  drafted' q n u h e = cases (wrote' q n)
      (λ y. (
        i,
        subst (λ (x : Cell). Draft x (place_at b q).number n) (sym (there i refl))
            (record {
              word = ap (λ (x : ℕ). x + 1) (sym y.1);
              commit = refl;
              number = ap (λ (x : ℕ). (place_at b x).number) (sym y.0);
            }),
      ))
      (λ y.
      let r = 𝓛.drafted q n u h (sym y.1 ∙ e) in
      cases (eq? r.0 i)
      (λ g.
      let d = only-own (place_at b q).number n (subst (λ (x : ℕ). Draft (cell_at cs x) (place_at b q).number n) g r.1) in
      absurd (y.0 (same_place b cs L 𝓛 q p h l (writer_busy b cs L 𝓛 q n u h (sym y.1 ∙ e)) (rw o refl) d.1) d.0))
      (λ g. (r.0, subst (λ (x : Cell). Draft x (place_at b q).number n) (sym (elsewhere r.0 g)) r.1)))

  still : (w m n : ℕ) (s : Shows cs w m n) → (s.cell ≡ i → ⊥) → Shows after w m n
  still w m n s g =
      let c = elsewhere s.cell g in
      record { cell = s.cell; word = rw c s.word; above = rw c s.above; within = rw c s.within }

  kept' : (w : ℕ) → Live b w → (m n u : ℕ) → m < w → wrote_at L.past m n ≡ some u → Shows after w m n
  kept' w live m n u h e =
      let r = 𝓛.kept w live m n u h e in
      cases (eq? r.cell i)
      (λ g.
      let s = spare w live m n (sym (ap (λ (x : ℕ). (cell_at cs x).word) g) ∙ r.word) (rw g at r.above) (rw g at r.within) in
      still w m n s.shown s.other)
      (λ g. still w m n r g)

  single' : (x y t n : ℕ) → Draft (cell_at after x) t n → Draft (cell_at after y) t n → x ≡ y
  single' x y t n d e = cases (eq? x i)
      (λ f. cases (eq? y i) (λ g. f ∙ sym g) (λ g. absurd (g (alone y (lone x y f g d e)))))
      (λ f. cases (eq? y i) (λ g. absurd (f (alone x (lone y x g f e d))))
      (λ g. 𝓛.single x y t n (subst (λ (c : Cell). Draft c t n) (elsewhere x f) d) (subst (λ (c : Cell). Draft c t n) (elsewhere y g) e)))
    where
      lone : (x y : ℕ) → x ≡ i → (y ≡ i → ⊥) → Draft (cell_at after x) t n → Draft (cell_at after y) t n → Draft (cell_at cs y) (number_at b p) k
      lone x y f g d e =
          let a = there x f in
          let c = elsewhere y g in
          record {
            word = sym (ap (λ (x : Cell). x.word) c) ∙ e.word ∙ sym d.word ∙ ap (λ (x : Cell). x.word) a;
            commit = sym (ap (λ (x : Cell). x.commit) c) ∙ e.commit;
            number = sym (ap (λ (x : Cell). x.number) c) ∙ e.number ∙ sym d.number ∙ ap (λ (x : Cell). x.number) a;
          }

  unique' : (x y n m : ℕ) → Version (cell_at after x) m n → Version (cell_at after y) m n → x ≡ y
  unique' x y n m d e =
      𝓛.unique x y n m
      (subst (λ (c : Cell). Version c m n) (elsewhere x (λ f. old x f d.commit)) d)
      (subst (λ (c : Cell). Version c m n) (elsewhere y (λ f. old y f e.commit)) e)
    where
      old : (x : ℕ) → x ≡ i → (cell_at after x).commit ≡ m + 1 → ⊥
      old x f g = let z : 0 ≡ m + 1 = sym (ap (λ (c : Cell). c.commit) (there x f)) ∙ g in omega arith

  pub write_links : Linked b after noted
  write_links =
      record {
        numbers = 𝓛.numbers;
        sixteen = 𝓛.sixteen;
        counted = 𝓛.counted;
        begun = 𝓛.begun;
        placed = placed';
        seen = seen';
        drafts = drafts';
        pasts = pasts';
        drafted = drafted';
        kept = kept';
        single = single';
        unique = unique';
      }
    where
      seen' : (q : ℕ) → q < all_places → (noted.at q).seen ≤ length L.past
      seen' q h = cases (eq? q p)
          (λ e. rw (put_same L.at p wrote_p q e) (𝓛.seen p l))
          (λ e. rw (put_other L.at p wrote_p q e) (𝓛.seen q h))
