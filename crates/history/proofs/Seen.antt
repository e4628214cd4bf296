-- What a linked board answers to a read, what it holds, and when it refuses an update for conflict.
-- Assumes nothing.
use Rattle.std.specs.Prelude.{None, Err}
use mathlib.Core.Path.{◌≡◌, refl, sym, ap, ◌∙◌}
use mathlib.Core.Logic.{inl, inr, ◌↔◌}
use mathlib.Core.Bool.{Bool, true, false, ◌&&◌}
use lib.Dec.{ltb}
use mathlib.Core.List.{List, [], ◌∷◌}
use mathlib.Core.Option.{none}
use Prim.Native.Nat.{ℕ, suc, ◌+◌, ◌≤◌, ◌<◌}
use native.Mathlib.Omega.{arith}
use lib.ListN.{length, take}
use lib.Seq.{take-length}
use Rattle.records.specs.declared.Refusal.{Refusal}
use Rattle.records.specs.Answers.{number_of}
use Rattle.cells.specs.declared.Cell.{Cell}
use Rattle.cells.specs.Cells.{no_cell}
use Rattle.cells.specs.Rules.{pick_cell, newest, own_at, visible, newest_seen, blocks, conflict}
use Rattle.cells.proofs.Meaning.{Newest, has_found, some_has, seen_means}
use Rattle.steps.specs.declared.State.{State}
use Rattle.steps.specs.declared.Board.{Board}
use Rattle.steps.specs.Record.{all_places, place_at}
use Rattle.steps.specs.Store.{Store, Outcome, cells_in}
use Rattle.steps.specs.Step.{read_as, updated_as, number_at, view_at}
use Rattle.history.specs.History.{Ledger, sees, leave, Contested, version_of}
use Rattle.steps.proofs.Tests.{two}
use Rattle.steps.proofs.Cases.{on_read, on_update}
use Rattle.history.proofs.Basics.{cases, clash, none?, none_some, pos}
use Rattle.history.proofs.Facts.{cell_at, in_cells, own_draft, no_draft, version_facts, visible_facts, visible_of, not_visible}
use Rattle.history.proofs.Facts.{blocks_facts, foreign_blocks, later_blocks}
use Rattle.history.proofs.Leave.{wrote_at, leave_none, leave_last}
use Rattle.history.proofs.Link.{busy, wrote, Live, Linked, writer_busy, same_place, own_cell}

-- two tests that say the same of every cell find the same
same_newest : (p q : Cell → Bool) (best : Cell) (cs : List Cell) → ((i : ℕ) → p (cell_at cs i) ≡ q (cell_at cs i)) → newest p best cs ≡ newest q best cs
unfolding newest
same_newest p q best [] e = refl
same_newest p q best (c ∷ cs) e =
    rw (e 0) (same_newest p q (pick_cell (q c && ltb best.commit c.commit) c best) cs (λ i. e (suc i)))

module _ (b : Board) (cs : List Cell) (L : Ledger) (𝓛 : Linked b cs L) where
  -- WHAT A LIVE VIEW READS IS WHAT THE FIRST w COMMITTED LEAVE

  -- no cell that w shows is above m: none of the transactions from m to below w wrote the key
  no_later : (w : ℕ) → Live b w → (k m : ℕ) → ((i : ℕ) → i < length cs → visible k w (cell_at cs i) ≡ true → (cell_at cs i).commit ≤ m)
      → m < w → wrote_at L.past m k ≡ none
  no_later w live k m top l = cases (none? (wrote_at L.past m k)) (λ e. e)
      (λ s. absurd
      (let r = 𝓛.kept w live m k s.0 l s.1 in
      let v = visible_of (cell_at cs r.cell) k w r.word (omega (arith, r.above)) r.within in
      omega (arith, r.above, top r.cell (in_cells cs r.cell k r.word) v)))

  newest_read : (w : ℕ) → Live b w → (k : ℕ) (c : Cell) → Newest (visible k w) cs c → c.value ≡ leave (take w L.past) k
  newest_read w live k c s =
      let f = visible_facts c k w s.passes in
      let g = pos c.commit f.1 in
      let t = s.this in
      let word : (cell_at cs s.at).word ≡ k + 1 = sym (ap (λ (c : Cell). c.word) t) ∙ f.0 in
      let commit : (cell_at cs s.at).commit ≡ g.0 + 1 = sym (ap (λ (c : Cell). c.commit) t) ∙ g.1 in
      let u = 𝓛.pasts s.at k g.0 word commit in
      ap (λ (c : Cell). c.value) t
      ∙ sym (leave_last w L.past k g.0 (cell_at cs s.at).value (omega (arith, f.2, g.1)) u.1
      (λ m l₁ l₂. no_later w live k m (λ i h e. omega (arith, s.most i h e, g.1)) l₂))

  pub live_read : (w : ℕ) → Live b w → (k : ℕ) → (newest_seen k w cs).value ≡ leave (take w L.past) k
  live_read w live k = cases (seen_means k w cs)
      (λ e. ap (λ (c : Cell). c.value) e.0
      ∙ sym (leave_none w L.past k (λ m l. no_later w live k m (λ i h t. clash t (e.1 i h)) l)))
      (λ s. newest_read w live k (newest_seen k w cs) s)

  -- no cell is numbered above the commit count: from there on a view sees all that is committed
  all_seen : (w : ℕ) → b.commits ≤ w → (k i : ℕ) → visible k w (cell_at cs i) ≡ version_of k (cell_at cs i)
  all_seen w l k i = cases (two (version_of k (cell_at cs i)))
      (λ e.
      let f = version_facts (cell_at cs i) k e in
      let g = pos (cell_at cs i).commit f.1 in
      let u = 𝓛.pasts i k g.0 f.0 g.1 in
      visible_of (cell_at cs i) k w f.0 f.1 (omega (arith, u.0, g.1, 𝓛.counted)) ∙ sym e)
      (λ e. not_visible (cell_at cs i) k w e ∙ sym e)

  pub newest_seen_lem : (w : ℕ) → b.commits ≤ w → (k : ℕ) → newest (version_of k) no_cell cs ≡ newest_seen k w cs
  unfolding newest_seen
  newest_seen_lem w l k = sym (same_newest (visible k w) (version_of k) no_cell cs (all_seen w l k))

  pub board_holds : (k : ℕ) → (newest (version_of k) no_cell cs).value ≡ leave L.past k
  board_holds k =
      ap (λ (c : Cell). c.value) (newest_seen_lem b.commits (omega arith) k) ∙ live_read b.commits (inl refl) k ∙ rw (𝓛.counted, take-length)

  pub not_written : (p k : ℕ) → p < all_places → own_at k (number_at b p) cs ≡ None → wrote L p k ≡ none
  not_written p k l n = cases (none? (wrote L p k)) (λ e. e)
      (λ s. let r = 𝓛.drafted p k s.0 l s.1 in absurd (no_draft (number_at b p) k cs r.0 n r.1))

  pub open_busy : (p : ℕ) → (place_at b p).state ≡ State.Open → busy (place_at b p) ≡ true
  open_busy p o = rw o

  -- THE CONFLICT TEST
  blocks_contests : (p k i : ℕ) → p < all_places → blocks k (number_at b p) (view_at b p) (cell_at cs i) ≡ true → Contested L p k
  blocks_contests p k i l e =
      let c = cell_at cs i in
      let f = blocks_facts c k (number_at b p) (view_at b p) e in
      cases f.1
      (λ g.
      let r = 𝓛.drafts i k f.0 g.0 in
      inl (r.0, r.1, (λ q. g.1 (sym r.2 ∙ ap (λ (j : ℕ). (place_at b j).number) q)), (c.value, r.3)))
      (λ g.
      let u = pos c.commit (omega arith) in
      let r = 𝓛.pasts i k u.0 f.0 u.1 in
      inr (u.0, omega (arith, (𝓛.placed p l).view, g, u.1), r.0, (c.value, r.1)))

  pub conflict_contested : (p k : ℕ) → p < all_places → conflict k (number_at b p) (view_at b p) cs ≡ true → Contested L p k
  unfolding conflict
  conflict_contested p k l e =
      let r = has_found (blocks k (number_at b p) (view_at b p)) cs e in
      blocks_contests p k r.at l r.passes

  blocked : (p k i : ℕ) → (cell_at cs i).word ≡ k + 1 → blocks k (number_at b p) (view_at b p) (cell_at cs i) ≡ true
      → conflict k (number_at b p) (view_at b p) cs ≡ true
  unfolding conflict
  blocked p k i w e = some_has (blocks k (number_at b p) (view_at b p)) cs i (in_cells cs i k w) e

  pub contested_conflict : (p k : ℕ) → p < all_places → busy (place_at b p) ≡ true → Contested L p k
      → conflict k (number_at b p) (view_at b p) cs ≡ true
  contested_conflict p k l h c = cases c
      (λ u.
      let r = 𝓛.drafted u.0 k u.3.0 u.1 u.3.1 in
      let n : (place_at b u.0).number ≡ (place_at b p).number → ⊥ =
      λ e. u.2 (same_place b cs L 𝓛 u.0 p u.1 l (writer_busy b cs L 𝓛 u.0 k u.3.0 u.1 u.3.1) h e) in
      blocked p k r.0 r.1.word (foreign_blocks (cell_at cs r.0) k (number_at b p) (view_at b p) (number_at b u.0) r.1 n))
      (λ u.
      let r = 𝓛.kept b.commits (inl refl) u.0 k u.3.0 (omega (arith, 𝓛.counted, u.2)) u.3.1 in
      let n : view_at b p < (cell_at cs r.cell).commit = omega (arith, r.above, (𝓛.placed p l).view, u.1) in
      blocked p k r.cell r.word (later_blocks (cell_at cs r.cell) k (number_at b p) (view_at b p) r.word n))

-- AT ONE STEP
module _ (st : Store) (L : Ledger) (𝓛 : Linked st.board (cells_in st) L) where
  abbrev b : Board
  b = st.board

  abbrev cs : List Cell
  cs = cells_in st

  abbrev Shown : ℕ → ℕ → Outcome → Type 0
  Shown p k o = o.said.number ≡ 0 → o.said.value ≡ sees L p k

  -- a read that is answered
  pub read_right : (p k : ℕ) → p < all_places → (place_at b p).state ≡ State.Open → Shown p k (read_as st p k)
  read_right p k l o =
      on_read (Shown p k) st p k
      (λ i f _. let y = own_cell b cs L 𝓛 p i k l (open_busy b cs L 𝓛 p o) (own_draft (number_at b p) k cs i f) in rw y)
      (λ _ _ z. absurd (omega arith))
      (λ n _ _. live_read b cs L 𝓛 (view_at b p) (inr (p, l, o, refl)) k ∙ rw (not_written b cs L 𝓛 p k l n, (𝓛.placed p l).view))

  abbrev Exact : ℕ → ℕ → Outcome → Type 0
  Exact p k o = (o.said.number ≡ number_of (Err Refusal.Conflict)) ↔ Contested L p k

  pub conflict_exact : (p k new : ℕ) → p < all_places → (place_at b p).state ≡ State.Open → wrote L p k ≡ none
      → Exact p k (updated_as st p k new)
  conflict_exact p k new l o w =
      let h = open_busy b cs L 𝓛 p o in
      let calm : conflict k (number_at b p) (view_at b p) cs ≡ false → Contested L p k → ⊥ =
      λ t c. clash (contested_conflict b cs L 𝓛 p k l h c) t in
      on_update (Exact p k) st p k new
      (λ i f. none_some (wrote L p k) (cell_at cs i).value w (own_cell b cs L 𝓛 p i k l h (own_draft (number_at b p) k cs i f)))
      (λ n t. (λ _. conflict_contested b cs L 𝓛 p k l t, λ _. refl))
      (λ n t i _. (λ e. absurd (omega arith), λ c. absurd (calm t c)))
      (λ n t _. (λ e. absurd (omega arith), λ c. absurd (calm t c)))
