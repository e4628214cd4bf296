-- Every step keeps the link between the board and the ledger, and keeps the history fair.
--     step_links, step_fair     for any call
--     note_plain                a refusal but CONFLICT leaves no trace
-- Assumes nothing.
use Rattle.std.specs.Prelude.{Ok, Err}
use mathlib.Core.Path.{◌≡◌, refl, sym, ap, ◌∙◌}
use mathlib.Core.Logic.{inl, inr}
use mathlib.Core.Bool.{true, false, not, false≢true}
use mathlib.Core.List.{List, map}
use Prim.Native.Nat.{ℕ, ◌+◌, ◌<◌}
use native.Mathlib.Omega.{arith}
use lib.ListN.{length, set}
use borrow.Author.Tests.{leb-false, eqb-true, not-false, ne_eqb}
use Rattle.records.specs.declared.Call.{Call}
use Rattle.records.specs.declared.Refusal.{Refusal}
use Rattle.records.specs.Answers.{Answer, number_of}
use Rattle.cells.specs.declared.Cell.{Cell}
use Rattle.cells.specs.Cells.{empty}
use Rattle.cells.specs.Rules.{valued}
use Rattle.cells.proofs.Words.{cells_with}
use Rattle.cells.proofs.Meaning.{Lowest, lowest_found, own_found}
use Rattle.steps.specs.declared.State.{State}
use Rattle.steps.specs.declared.Board.{Board}
use Rattle.steps.specs.Record.{all_places, is_idle, place_at}
use Rattle.steps.specs.Shape.{in_shape}
use Rattle.steps.specs.Spent.{spent, free, reusable}
use Rattle.steps.specs.Store.{Store, Outcome, cells_in, said_of, answered}
use Rattle.steps.specs.Step.{done, draft, number_at, facts, read_as, updated_as, step}
use Rattle.steps.specs.Run.{Pair, pair_of}
use Rattle.steps.proofs.Cases.{Cleared, on_step, on_read, on_update, open_of}
use Rattle.steps.proofs.Keeps.{shape_of, keeps_shape}
use Rattle.history.specs.History.{Ledger, tick, accept, refuse, note, sees}
use Rattle.history.proofs.Basics.{cases, clash, or_cases}
use Rattle.history.proofs.Facts.{cell_at, Draft, own_draft, no_draft, spent_facts}
use Rattle.history.proofs.Link.{busy, Linked, own_cell}
use Rattle.history.proofs.Seen.{open_busy, read_right, contested_conflict}
use Rattle.history.proofs.Write.{spent_successor, write_links}
use Rattle.history.proofs.Turn.{tick_links, read_links, turn_links, start_links}
use Rattle.history.proofs.Close.{commit_links, rollback_links}
use Rattle.history.proofs.Timed.{Timed}
use Rattle.history.proofs.Fair.{Fair, fair_tick, fair_start, fair_turn, fair_read, fair_rollback, fair_write, fair_commit}

-- A REFUSAL BUT CONFLICT LEAVES NO TRACE

refuse_plain : (L : Ledger) (c : Call) (n : ℕ) → (n ≡ number_of (Err Refusal.Conflict) → ⊥) → refuse L c n ≡ tick L L.at L.past
unfolding refuse
refuse_plain L (Call.Start p) n e = refl
refuse_plain L (Call.Read p k) n e = refl
refuse_plain L (Call.Update p k new) n e = rw (ne_eqb n (number_of (Err Refusal.Conflict)) e)
refuse_plain L (Call.Prepare p) n e = refl
refuse_plain L (Call.Commit p) n e = refl
refuse_plain L (Call.Rollback p) n e = refl

pub note_plain : (L : Ledger) (h : Pair) → (h.said.number ≡ 0 → ⊥) → (h.said.number ≡ number_of (Err Refusal.Conflict) → ⊥)
    → note L h ≡ tick L L.at L.past
note_plain L h e f = rw (ne_eqb h.said.number 0 e) (refuse_plain L h.call h.said.number f)

-- STATES

pub idle_of : (s : State) → is_idle s ≡ true → s ≡ State.Idle
idle_of State.Idle e = refl
idle_of State.Open e = absurd (false≢true e)
idle_of State.Spoiled e = absurd (false≢true e)
idle_of State.Prepared e = absurd (false≢true e)

spoiled≢idle : State.Spoiled ≡ State.Idle → ⊥
spoiled≢idle e = let z : ◌≡◌ {A = ℕ} 0 1 = cc in omega arith

spoiled≢open : State.Spoiled ≡ State.Open → ⊥
spoiled≢open e = let z : ◌≡◌ {A = ℕ} 0 1 = cc in omega arith

prepared≢idle : State.Prepared ≡ State.Idle → ⊥
prepared≢idle e = let z : ◌≡◌ {A = ℕ} 0 1 = cc in omega arith

prepared≢open : State.Prepared ≡ State.Open → ⊥
prepared≢open e = let z : ◌≡◌ {A = ℕ} 0 1 = cc in omega arith

-- an own cell that takes the value is written whole
valued_draft : (c : Cell) (k v t : ℕ) → Draft c t k → ◌≡◌ {A = Cell} (valued v c) (draft k v t)
valued_draft c k v t d = cc

-- the call with what an outcome says
abbrev pair_with : Call → Outcome → Pair
pair_with c o = record { call = c; said = o.said }

module _ (st : Store) (L : Ledger) (𝓛 : Linked st.board (cells_in st) L) where
  abbrev b : Board
  b = st.board

  abbrev ws : List ℕ
  ws = st.words

  abbrev cs : List Cell
  cs = cells_in st

  abbrev Kept : Call → Outcome → Type 0
  Kept c o =
      in_shape o.store.board (length o.store.words) ≡ true
      → Linked o.store.board (cells_in o.store) (note L (pair_with c o))

  refused : (c : Call) (a : Answer) → (number_of a ≡ 0 → ⊥) → (number_of a ≡ number_of (Err Refusal.Conflict) → ⊥) → Kept c (answered a st)
  refused c a e f s = rw (note_plain L (pair_with c (answered a st)) e f) (tick_links b cs L 𝓛)

  -- the open place of a read, an update or a prepare
  opened : (p : ℕ) → is_idle (place_at b p).state ≡ false → busy (place_at b p) ≡ true
  opened p e = ap not e

  -- AN UPDATE

  -- the lowest empty or spent cell
  free_links : (p k v : ℕ) → p < all_places → (place_at b p).state ≡ State.Open
      → (i : ℕ) → Lowest (free b.places cs) cs i → ((j : ℕ) → Draft (cell_at cs j) (number_at b p) k → ⊥)
      → Linked b (set cs i (draft k v (number_at b p))) (accept L (Call.Update p k v) (said_of (Ok 0)))
  unfolding accept
  free_links p k v l o i f none =
      let h = or_cases (empty (cell_at cs i)) (spent b.places cs (cell_at cs i)) f.passes in
      let blank : (j : ℕ) → empty (cell_at cs i) ≡ true → (cell_at cs i).word ≡ j + 1 → ⊥ =
      λ j e a. let z : (cell_at cs i).word ≡ 0 = eqb-true _ _ e in omega arith in
      write_links b cs L 𝓛 p k v i l o f.inside
      (λ t j d. cases h
      (λ e. absurd (blank j e d.word))
      (λ e. absurd (omega (arith, (spent_facts (cell_at cs i) b.places cs e).0, d.commit))))
      (λ j d. absurd (none j d))
      (λ w live m j a q q'. cases h
      (λ e. absurd (blank j e a))
      (λ e. spent_successor b cs L 𝓛 i e w live m j a q q'))

  own_links : (p k v i : ℕ) → p < all_places → (place_at b p).state ≡ State.Open → i < length cs → Draft (cell_at cs i) (number_at b p) k
      → Linked b (set cs i (draft k v (number_at b p))) (accept L (Call.Update p k v) (said_of (Ok 0)))
  unfolding accept
  own_links p k v i l o h d =
      write_links b cs L 𝓛 p k v i l o h
      (λ t j d'. (let z : j + 1 ≡ k + 1 = sym d'.word ∙ d.word in omega arith, sym d'.number ∙ d.number))
      (λ j d'. 𝓛.single j i _ k d' d)
      (λ w live m j a q q'. absurd (omega (arith, q, d.commit)))

  update_links : (p k v : ℕ) → p < all_places → (place_at b p).state ≡ State.Open → Kept (Call.Update p k v) (updated_as st p k v)
  unfolding reusable refuse
  update_links p k v l o =
      on_update (Kept (Call.Update p k v)) st p k v
      (λ i f s.
      let d = own_draft (number_at b p) k cs i f in
      rw (cells_with ws (set cs i (valued v (cell_at cs i))), valued_draft (cell_at cs i) k v (number_at b p) d)
      (own_links p k v i l o (own_found k (number_at b p) cs i f).inside d))
      (λ n t s. turn_links b cs L 𝓛 p State.Spoiled l spoiled≢idle spoiled≢open (shape_of _ _ s).apart)
      (λ n t i f s.
      rw (cells_with ws (set cs i (draft k v (number_at b p))))
      (free_links p k v l o i (lowest_found (free b.places cs) cs i f) (λ j d. no_draft (number_at b p) k cs j n d)))
      (λ n t f. refused (Call.Update p k v) (Err Refusal.Full) (λ e. omega arith) (λ e. omega arith))

  read_kept : (p k : ℕ) → Kept (Call.Read p k) (read_as st p k)
  unfolding accept
  read_kept p k =
      on_read (Kept (Call.Read p k)) st p k
      (λ i f s. read_links b cs L 𝓛 p k _)
      (λ n t. refused (Call.Read p k) (Err Refusal.Prepared) (λ e. omega arith) (λ e. omega arith))
      (λ n t s. read_links b cs L 𝓛 p k _)

  -- EVERY CALL
  done_links : (c : Call) → Cleared (facts st c) → Kept c (done st c)
  unfolding accept
  done_links (Call.Start p) g s =
      start_links b cs L 𝓛 p (leb-false _ _ (g (Err Refusal.Place))) (idle_of _ (not-false _ (g (Err Refusal.Busy)))) (shape_of _ _ s).apart
  done_links (Call.Read p k) g s = read_kept p k s
  done_links (Call.Update p k v) g s =
      update_links p k v (leb-false _ _ (g (Err Refusal.Place)))
      (open_of (place_at b p).state (g (Err Refusal.Idle)) (g (Err Refusal.Spoiled)) (g (Err Refusal.Held))) s
  done_links (Call.Prepare p) g s =
      turn_links b cs L 𝓛 p State.Prepared (leb-false _ _ (g (Err Refusal.Place))) prepared≢idle prepared≢open (shape_of _ _ s).apart
  done_links (Call.Commit p) g s =
      rw (cells_with ws (map _ cs))
      (commit_links b cs L 𝓛 p (leb-false _ _ (g (Err Refusal.Place))) (opened p (g (Err Refusal.Idle))) (shape_of _ _ s).apart)
  done_links (Call.Rollback p) g s =
      rw (cells_with ws (map _ cs))
      (rollback_links b cs L 𝓛 p (leb-false _ _ (g (Err Refusal.Place))) (opened p (g (Err Refusal.Idle))) (shape_of _ _ s).apart)

  pub step_links : (c : Call) → in_shape b (length ws) ≡ true
      → Linked (step st c).store.board (cells_in (step st c).store) (note L (pair_of st c))
  step_links c s = on_step (Kept c) st c (λ a h. refused c a h.refusal h.calm) (done_links c) (keeps_shape st c s)

  -- FAIR
  module _ (t : Timed L) (f : Fair L) where
    abbrev StaysFair : Call → Outcome → Type 0
    StaysFair c o = Fair (note L (pair_with c o))

    refused_fair : (c : Call) (a : Answer) → (number_of a ≡ 0 → ⊥) → (number_of a ≡ number_of (Err Refusal.Conflict) → ⊥) → StaysFair c (answered a st)
    refused_fair c a e g = rw (note_plain L (pair_with c (answered a st)) e g) (fair_tick L f)

    update_fair : (p k v : ℕ) → p < all_places → (place_at b p).state ≡ State.Open → StaysFair (Call.Update p k v) (updated_as st p k v)
    unfolding accept refuse
    update_fair p k v l o =
        let h = open_busy b cs L 𝓛 p o in
        on_update (StaysFair (Call.Update p k v)) st p k v
        (λ i e. fair_write L f p k v l (inl ((cell_at cs i).value, own_cell b cs L 𝓛 p i k l h (own_draft (number_at b p) k cs i e))))
        (λ n t. fair_turn L f p State.Spoiled l)
        (λ n t i _. fair_write L f p k v l (inr (λ c. clash (contested_conflict b cs L 𝓛 p k l h c) t)))
        (λ n t _. refused_fair (Call.Update p k v) (Err Refusal.Full) (λ e. omega arith) (λ e. omega arith))

    -- an outcome that is OK, with the value that the transaction sees, or PREPARED
    read_fair : (p k : ℕ) → p < all_places → (place_at b p).state ≡ State.Open → StaysFair (Call.Read p k) (read_as st p k)
    unfolding accept
    read_fair p k l o =
        on_read (λ (x : Outcome). (x.said.number ≡ 0 → x.said.value ≡ sees L p k) → StaysFair (Call.Read p k) x) st p k
        (λ i e r. fair_read L f p k _ l (r refl))
        (λ n t r. refused_fair (Call.Read p k) (Err Refusal.Prepared) (λ e. omega arith) (λ e. omega arith))
        (λ n t r. fair_read L f p k _ l (r refl))
        (read_right st L 𝓛 p k l o)

    done_fair : (c : Call) → Cleared (facts st c) → StaysFair c (done st c)
    unfolding accept
    done_fair (Call.Start p) g = fair_start L f p
    done_fair (Call.Read p k) g =
        read_fair p k (leb-false _ _ (g (Err Refusal.Place)))
        (open_of (place_at b p).state (g (Err Refusal.Idle)) (g (Err Refusal.Spoiled)) (g (Err Refusal.Held)))
    done_fair (Call.Update p k v) g =
        update_fair p k v (leb-false _ _ (g (Err Refusal.Place)))
        (open_of (place_at b p).state (g (Err Refusal.Idle)) (g (Err Refusal.Spoiled)) (g (Err Refusal.Held)))
    done_fair (Call.Prepare p) g = fair_turn L f p State.Prepared (leb-false _ _ (g (Err Refusal.Place)))
    done_fair (Call.Commit p) g = fair_commit L f t p (leb-false _ _ (g (Err Refusal.Place)))
    done_fair (Call.Rollback p) g = fair_rollback L f p

    pub step_fair : (c : Call) → Fair (note L (pair_of st c))
    step_fair c = on_step (StaysFair c) st c (λ a h. refused_fair c a h.refusal h.calm) (done_fair c)
