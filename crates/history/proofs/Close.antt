-- A commit and a rollback keep the link.
-- Assumes nothing.
use mathlib.Core.Path.{◌≡◌, refl, sym, ap, ◌∙◌, subst}
use mathlib.Core.Logic.{◌⊎◌, inl, inr}
use mathlib.Core.Bool.{true, false}
use mathlib.Core.List.{List, [], ◌∷◌, map, ◌++◌}
use mathlib.Core.Option.{none, some}
use Prim.Native.Nat.{ℕ, ◌+◌, ◌≤◌, ◌<◌}
use native.Mathlib.Omega.{arith}
use lib.ListN.{length, get_or, set, length-set, length-append, get_or-map, get_or-append}
use lib.Seq.{get_or-set_same, get_or-set_other, get_or-append_seam}
use Rattle.cells.specs.declared.Cell.{Cell}
use Rattle.cells.specs.Cells.{no_cell, own}
use Rattle.cells.specs.Rules.{wiped, stamped}
use Rattle.steps.specs.declared.State.{State}
use Rattle.steps.specs.declared.Place.{Place}
use Rattle.steps.specs.declared.Board.{Board}
use Rattle.steps.specs.Record.{all_places, idle_place, place_at, with_place, committed_board}
use Rattle.steps.specs.Shape.{held, distinct}
use Rattle.steps.specs.Step.{number_at}
use Rattle.steps.proofs.Tests.{two}
use Rattle.history.specs.History.{last_write, Transaction, nobody, Done, nothing, Ledger, ended, put, tick}
use Rattle.history.proofs.Basics.{cases, eq?, clash, none_some}
use Rattle.history.proofs.Facts.{cell_at, pick_true, pick_false, Draft, Version, own_facts, draft_own}
use Rattle.history.proofs.Leave.{wrote_at}
use Rattle.history.proofs.Link.{put_same, put_other, wrote, busy, Matches, Live, Shows, Linked, writer_busy, same_place, own_cell}

-- a committed cell is nobody's own
not_own : (t : ℕ) (c : Cell) (m : ℕ) → m < c.commit → own t c ≡ false
not_own t c m h = cases (two (own t c)) (λ e. let z = (own_facts c t e).0 in absurd (omega (arith, z))) (λ e. e)

-- THE PLACE FALLS IDLE
module _ (b : Board) (cs : List Cell) (L : Ledger) (𝓛 : Linked b cs L) (p : ℕ) (l : p < all_places) (h : busy (place_at b p) ≡ true) where
  abbrev T : ℕ
  T = number_at b p

  abbrev left : List Place
  left = set b.places p idle_place

  at_p : (q : ℕ) → q ≡ p → get_or left q idle_place ≡ idle_place
  at_p q e = rw e (get_or-set_same b.places p idle_place idle_place (omega (arith, 𝓛.sixteen)))

  at_q : (q : ℕ) → (q ≡ p → ⊥) → get_or left q idle_place ≡ place_at b q
  at_q q e = get_or-set_other b.places p q idle_place idle_place e

  placed' : (q : ℕ) → q < all_places → Matches (get_or left q idle_place) (put L.at p nobody q)
  placed' q g = cases (eq? q p)
      (λ e. rw (put_same L.at p nobody q e) (rw (at_p q e) (record { state = refl; view = refl; blank = λ z k. refl })))
      (λ e. rw (put_other L.at p nobody q e) (rw (at_q q e) (𝓛.placed q g)))

  -- an open place is another one, and was open
  open_other : (q : ℕ) → (get_or left q idle_place).state ≡ State.Open → q ≡ p → ⊥
  open_other q e g =
      let x : State.Idle ≡ State.Open = sym (ap (λ (x : Place). x.state) (at_p q g)) ∙ e in
      let z : ◌≡◌ {A = ℕ} 0 1 = cc in omega arith

  -- who still has a write is another one
  writer_other : (q k v : ℕ) → last_write (put L.at p nobody q).did k ≡ some v → q ≡ p → ⊥
  writer_other q k v e g = none_some none v refl (rw (put_same L.at p nobody q g) at e)

  -- its cells are not T's
  foreign_cell : (q k v : ℕ) → q < all_places → (q ≡ p → ⊥) → wrote L q k ≡ some v → (c : Cell) → c.number ≡ (place_at b q).number → own T c ≡ false
  foreign_cell q k v g d e c n = cases (two (own T c))
      (λ f. absurd (d (same_place b cs L 𝓛 q p g l (writer_busy b cs L 𝓛 q k v g e) h (sym n ∙ (own_facts c T f).1))))
      (λ f. f)

  -- the run of another place
  run_other : (q k : ℕ) → (q ≡ p → ⊥) → last_write (put L.at p nobody q).did k ≡ wrote L q k
  run_other q k d = ap (λ (r : Transaction). last_write r.did k) (put_other L.at p nobody q d)

  -- CELLS OF WHICH EACH IS AS IT WAS OR WAS T'S: the drafts of the others
  module _ (after : List Cell) (same : (j : ℕ) → own T (cell_at cs j) ≡ false → cell_at after j ≡ cell_at cs j) where
    draft_stays : (j n : ℕ) → own T (cell_at cs j) ≡ false → (cell_at after j).word ≡ n + 1 → (cell_at after j).commit ≡ 0
        → (q : ℕ) × (q < all_places) × ((get_or left q idle_place).number ≡ (cell_at after j).number)
        × (last_write (put L.at p nobody q).did n ≡ some (cell_at after j).value)
    draft_stays j n f ek ec =
        let s = same j f in
        let ek' : (cell_at cs j).word ≡ n + 1 = sym (ap (λ (c : Cell). c.word) s) ∙ ek in
        let ec' : (cell_at cs j).commit ≡ 0 = sym (ap (λ (c : Cell). c.commit) s) ∙ ec in
        let r = 𝓛.drafts j n ek' ec' in
        let d : r.0 ≡ p → ⊥ =
        λ e. clash (draft_own (cell_at cs j) T n (record { word = ek'; commit = ec'; number = sym r.2 ∙ ap (λ (x : ℕ). (place_at b x).number) e })) f in (
          r.0,
          r.1,
          ap (λ (x : Place). x.number) (at_q r.0 d) ∙ r.2 ∙ sym (ap (λ (c : Cell). c.number) s),
          run_other r.0 n d ∙ r.3 ∙ sym (ap (λ (c : Cell). some c.value) s),
        )

    drafted_stays : (q n u : ℕ) → q < all_places → last_write (put L.at p nobody q).did n ≡ some u
        → (i : ℕ) × Draft (cell_at after i) (get_or left q idle_place).number n
    drafted_stays q n u g e =
        let d = writer_other q n u e in
        let e' : wrote L q n ≡ some u = sym (run_other q n d) ∙ e in
        let r = 𝓛.drafted q n u g e' in
        let c = same r.0 (foreign_cell q n u g d e' (cell_at cs r.0) r.1.number) in
        (r.0, rw (c, at_q q d) r.1)

    -- what was shown is shown
    shown_stays : (v w m n u : ℕ) → Live b v → v ≤ w → m < v → wrote_at L.past m n ≡ some u → Shows after w m n
    shown_stays v w m n u live g a e =
        let r = 𝓛.kept v live m n u a e in
        let c = same r.cell (not_own T (cell_at cs r.cell) m r.above) in
        let within : (cell_at cs r.cell).commit ≤ w = omega (arith, r.within) in
        record { cell = r.cell; word = rw c r.word; above = rw c r.above; within = rw c within }

  -- ROLLBACK
  abbrev back : Board
  back = with_place b p idle_place

  abbrev emptied : List Cell
  emptied = map (wiped T) cs

  abbrev noted : Ledger
  noted = tick L (put L.at p nobody) L.past

  cell_back : (j : ℕ) → cell_at emptied j ≡ wiped T (cell_at cs j)
  cell_back j = get_or-map (wiped T) cs j no_cell

  same_back : (j : ℕ) → own T (cell_at cs j) ≡ false → cell_at emptied j ≡ cell_at cs j
  same_back j e = cell_back j ∙ pick_false no_cell (cell_at cs j) e

  -- a cell that is not empty after the rollback stood there before
  stays : (j k : ℕ) → (cell_at emptied j).word ≡ k + 1 → (own T (cell_at cs j) ≡ false) × (cell_at emptied j ≡ cell_at cs j)
  stays j k e = cases (two (own T (cell_at cs j)))
      (λ f. absurd
      (let x : cell_at emptied j ≡ no_cell = cell_back j ∙ pick_true no_cell (cell_at cs j) f in
      let z : 0 ≡ k + 1 = sym (ap (λ (c : Cell). c.word) x) ∙ e in omega arith))
      (λ f. (f, same_back j f))

  live_back : (w : ℕ) → Live back w → Live b w
  live_back w live = cases live (λ e. inl e)
      (λ y. let d = at_q y.0 (open_other y.0 y.2) in
      inr (y.0, y.1, sym (ap (λ (x : Place). x.state) d) ∙ y.2, sym (ap (λ (x : Place). x.view) d) ∙ y.3))

  pub rollback_links : distinct (held left) ≡ true → Linked back emptied noted
  rollback_links apart =
      record {
        numbers = apart;
        sixteen = length-set b.places p idle_place ∙ 𝓛.sixteen;
        counted = 𝓛.counted;
        begun = 𝓛.begun;
        placed = placed';
        seen = λ q g. cases (eq? q p)
            (λ e. rw (put_same L.at p nobody q e) (omega arith))
            (λ e. rw (put_other L.at p nobody q e) (𝓛.seen q g));
        drafts = λ j n ek ec. draft_stays emptied same_back j n (stays j n ek).0 ek ec;
        pasts = λ j n m ek ec.
            let s = (stays j n ek).1 in
            let r = 𝓛.pasts j n m (sym (ap (λ (c : Cell). c.word) s) ∙ ek) (sym (ap (λ (c : Cell). c.commit) s) ∙ ec) in
            (r.0, r.1 ∙ sym (ap (λ (c : Cell). some c.value) s));
        drafted = drafted_stays emptied same_back;
        kept = λ w live m n u g e. shown_stays emptied same_back w w m n u (live_back w live) (omega arith) g e;
        single = λ x y t n d e.
            𝓛.single x y t n (subst (λ (c : Cell). Draft c t n) (stays x n d.word).1 d)
            (subst (λ (c : Cell). Draft c t n) (stays y n e.word).1 e);
        unique = λ x y n m d e.
            𝓛.unique x y n m (subst (λ (c : Cell). Version c m n) (stays x n d.word).1 d)
            (subst (λ (c : Cell). Version c m n) (stays y n e.word).1 e);
      }

  -- COMMIT
  abbrev N : ℕ
  N = b.commits + 1

  abbrev last : Done
  last = ended L (L.at p)

  abbrev past' : List Done
  past' = L.past ++ (last ∷ [])

  abbrev sealed : List Cell
  sealed = map (stamped T N) cs

  abbrev closed : Board
  closed = committed_board b p

  abbrev noted' : Ledger
  noted' = tick L (put L.at p nobody) past'

  abbrev seal : Cell → Cell
  seal c = record { word = c.word; value = c.value; number = c.number; commit = N }

  cell_done : (j : ℕ) → cell_at sealed j ≡ stamped T N (cell_at cs j)
  cell_done j = get_or-map (stamped T N) cs j no_cell

  same_done : (j : ℕ) → own T (cell_at cs j) ≡ false → cell_at sealed j ≡ cell_at cs j
  same_done j e = cell_done j ∙ pick_false (seal (cell_at cs j)) (cell_at cs j) e

  sealed_done : (j : ℕ) → own T (cell_at cs j) ≡ true → cell_at sealed j ≡ seal (cell_at cs j)
  sealed_done j e = cell_done j ∙ pick_true (seal (cell_at cs j)) (cell_at cs j) e

  -- a cell that is uncommitted after the commit was there before and is not T's
  stays' : (j : ℕ) → (cell_at sealed j).commit ≡ 0 → (own T (cell_at cs j) ≡ false) × (cell_at sealed j ≡ cell_at cs j)
  stays' j e = cases (two (own T (cell_at cs j)))
      (λ f. absurd (let z : N ≡ 0 = sym (ap (λ (c : Cell). c.commit) (sealed_done j f)) ∙ e in omega arith))
      (λ f. (f, same_done j f))

  grown : length past' ≡ length L.past + 1
  grown = length-append L.past (last ∷ []) ∙ omega arith

  older : (m k : ℕ) → m < length L.past → wrote_at past' m k ≡ wrote_at L.past m k
  older m k g = ap (λ (d : Done). last_write d.did k) (get_or-append L.past (last ∷ []) nothing m g)

  newer : (m k : ℕ) → m ≡ length L.past → wrote_at past' m k ≡ wrote L p k
  newer m k e = rw e (ap (λ (d : Done). last_write d.did k) (get_or-append_seam L.past last [] nothing))

  -- a version is the new one, in a cell of T's, or an old one, in a cell that did not change
  version_done : (x m n : ℕ) → Version (cell_at sealed x) m n
      → ((m ≡ b.commits) × Draft (cell_at cs x) T n × (cell_at sealed x ≡ seal (cell_at cs x)))
      ⊎ (Version (cell_at cs x) m n × (cell_at sealed x ≡ cell_at cs x))
  version_done x m n d = cases (two (own T (cell_at cs x)))
      (λ f.
      let c = sealed_done x f in
      let o = own_facts (cell_at cs x) T f in
      let z : b.commits + 1 ≡ m + 1 = sym (ap (λ (c : Cell). c.commit) c) ∙ d.commit in
      inl (omega arith, record { word = sym (ap (λ (c : Cell). c.word) c) ∙ d.word; commit = o.0; number = o.1 }, c))
      (λ f. let c = same_done x f in inr (subst (λ (c : Cell). Version c m n) c d, c))

  pasts_done : (j n m : ℕ) → (cell_at sealed j).word ≡ n + 1 → (cell_at sealed j).commit ≡ m + 1
      → (m < length past') × (wrote_at past' m n ≡ some (cell_at sealed j).value)
  pasts_done j n m ek ec = cases (version_done j m n (record { word = ek; commit = ec }))
      (λ u.
      let w = own_cell b cs L 𝓛 p j n l h u.1 in
      (omega (arith, grown, u.0, 𝓛.counted), newer m n (u.0 ∙ 𝓛.counted) ∙ w ∙ sym (ap (λ (c : Cell). some c.value) u.2)))
      (λ u.
      let r = 𝓛.pasts j n m u.0.word u.0.commit in
      (omega (arith, grown, r.0), older m n r.0 ∙ r.1 ∙ sym (ap (λ (c : Cell). some c.value) u.1)))

  kept_done : (w : ℕ) → Live closed w → (m n u : ℕ) → m < w → wrote_at past' m n ≡ some u → Shows sealed w m n
  kept_done w live m n u g e = cases live
      (λ x. cases (eq? m (length L.past))
      (λ y.
      let r = 𝓛.drafted p n u l (sym (newer m n y) ∙ e) in
      let c = sealed_done r.0 (draft_own (cell_at cs r.0) T n r.1) in
      let a : m < N = omega (arith, 𝓛.counted) in
      let a' : N ≤ w = omega arith in
      record { cell = r.0; word = rw c r.1.word; above = rw c a; within = rw c a' })
      (λ y.
      let a : m < b.commits = omega (arith, 𝓛.counted) in
      shown_stays sealed same_done b.commits w m n u (inl refl) (omega arith) a (sym (older m n (omega (arith, 𝓛.counted))) ∙ e)))
      (λ x.
      let d = at_q x.0 (open_other x.0 x.2) in
      let v : (place_at b x.0).view ≡ w = sym (ap (λ (x : Place). x.view) d) ∙ x.3 in
      let a : m < length L.past = omega (arith, 𝓛.seen x.0 x.1, (𝓛.placed x.0 x.1).view) in
      shown_stays sealed same_done w w m n u (inr (x.0, x.1, sym (ap (λ (x : Place). x.state) d) ∙ x.2, v)) (omega arith) g
      (sym (older m n a) ∙ e))

  unique_done : (x y n m : ℕ) → Version (cell_at sealed x) m n → Version (cell_at sealed y) m n → x ≡ y
  unique_done x y n m d e = cases (version_done x m n d)
      (λ u. cases (version_done y m n e)
      (λ w. 𝓛.single x y T n u.1 w.1)
      (λ w. absurd (omega (arith, u.0, below y m n w.0))))
      (λ u. cases (version_done y m n e)
      (λ w. absurd (omega (arith, w.0, below x m n u.0)))
      (λ w. 𝓛.unique x y n m u.0 w.0))
    where
      below : (x m n : ℕ) → Version (cell_at cs x) m n → m < b.commits
      below x m n v = omega (arith, (𝓛.pasts x n m v.word v.commit).0, 𝓛.counted)

  pub commit_links : distinct (held left) ≡ true → Linked closed sealed noted'
  commit_links apart =
      record {
        numbers = apart;
        sixteen = length-set b.places p idle_place ∙ 𝓛.sixteen;
        counted = omega (arith, 𝓛.counted, grown);
        begun = 𝓛.begun;
        placed = placed';
        seen = λ q g. cases (eq? q p)
            (λ e. rw (put_same L.at p nobody q e) (omega arith))
            (λ e. rw (put_other L.at p nobody q e) (omega (arith, grown, 𝓛.seen q g)));
        drafts = λ j n ek ec. draft_stays sealed same_done j n (stays' j ec).0 ek ec;
        pasts = pasts_done;
        drafted = drafted_stays sealed same_done;
        kept = kept_done;
        single = λ x y t n d e.
            𝓛.single x y t n (subst (λ (c : Cell). Draft c t n) (stays' x d.commit).1 d)
            (subst (λ (c : Cell). Draft c t n) (stays' y e.commit).1 e);
        unique = unique_done;
      }
