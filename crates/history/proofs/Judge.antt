-- Every answer from a fresh board is the verdict of its history, or FULL at an update that needs a cell; and FULL is exact.
--     all_right, full_right     the two promises of specs/Verdict
--     decided                   so a ledger and the number of cells decide every answer
-- Assumes nothing.
use Rattle.std.specs.Prelude.{Option as Found, Some, None, Ok, Err}
use mathlib.Core.Path.{◌≡◌, refl, sym, ap, ◌∙◌, subst}
use mathlib.Core.Logic.{◌⊎◌, inl, inr, ◌↔◌}
use mathlib.Core.Bool.{Bool, true, false, not, ◌&&◌, false≢true}
use mathlib.Core.List.{List}
use mathlib.Core.Option.{Option, none, some}
use Prim.Native.Nat.{ℕ, zero, suc, ◌+◌, ◌/◌, ◌<◌}
use native.Mathlib.Nat.{not-suc-le-zero}
use native.Mathlib.Omega.{arith}
use lib.Dec.{leb, eqb}
use lib.ListN.{length, take}
use borrow.Author.Tests.{leb-true, leb-false, le-leb, eqb-true, eqb-false, eq-eqb, ne_eqb, not-true}
use Rattle.records.specs.declared.Call.{Call}
use Rattle.records.specs.declared.Refusal.{Refusal}
use Rattle.records.specs.Answers.{Answer, number_of, place_of}
use Rattle.cells.specs.declared.Cell.{Cell}
use Rattle.cells.specs.Cells.{of_key, foreign}
use Rattle.cells.specs.Rules.{foreign_of, foreign_with}
use Rattle.cells.proofs.Words.{length_cells}
use Rattle.cells.proofs.Meaning.{has_found, some_has}
use Rattle.steps.specs.declared.State.{State}
use Rattle.steps.specs.declared.Board.{Board}
use Rattle.steps.specs.Record.{all_places, all_keys, is_idle, is_prepared, place_at}
use Rattle.steps.specs.Shape.{in_shape}
use Rattle.steps.specs.Check.{check_of}
use Rattle.steps.specs.Spent.{holds_back, held_back, reusable}
use Rattle.steps.specs.Store.{Store, Said, Outcome, cells_in, said_of}
use Rattle.steps.specs.Step.{done, facts, read_as, updated_as, number_at, view_at, step}
use Rattle.steps.specs.Run.{Pair, pair_of}
use Rattle.steps.proofs.Tests.{two, and_both as both, and_left, and_right}
use Rattle.steps.proofs.Cases.{Cleared, cleared, same_check, on_read, on_update, open_of}
use Rattle.history.specs.History.{Ledger, done_at, ledger, leave, Contested, Reaches}
use Rattle.history.specs.Verdict.{any_below, is_some, wrote_key, contested, hidden, checks_of, due, verdict, NeedsCell, Packed, Answers}
use Rattle.history.specs.Verdict.{Right, AllRight, FullRight, Decided}
use Rattle.history.proofs.Basics.{cases, eq?, clash, or_cases, or_left, or_right, none_some, place_found, some_place}
use Rattle.history.proofs.Facts.{cell_at, Draft, in_cells, own_draft, foreign_facts, foreign_of_lem}
use Rattle.history.proofs.Link.{wrote, Linked, same_place, own_cell}
use Rattle.history.proofs.Seen.{open_busy, not_written, live_read, conflict_contested, contested_conflict}
use Rattle.history.proofs.Demand.{reaches, at, empty_count}
use Rattle.history.proofs.Full.{full_packed, packed_full}

-- THE HISTORY'S TESTS AS FACTS

some_of : (o : Option ℕ) → is_some o ≡ true → (v : ℕ) × (o ≡ some v)
some_of none e = absurd (false≢true e)
some_of (some v) e = (v, refl)

below_true : (n : ℕ) (t : ℕ → Bool) → any_below n t ≡ true → (q : ℕ) × (q < n) × (t q ≡ true)
unfolding any_below
below_true zero t e = absurd (false≢true e)
below_true (suc n) t e = cases (or_cases (t n) (any_below n t) e)
    (λ h. (n, omega arith, h))
    (λ h. let r = below_true n t h in (r.0, omega (arith, r.1), r.2))

below_at : (n : ℕ) (t : ℕ → Bool) (q : ℕ) → q < n → t q ≡ true → any_below n t ≡ true
unfolding any_below
below_at zero t q h e = absurd (not-suc-le-zero h)
below_at (suc n) t q h e = cases (eq? q n)
    (λ z. or_left (t n) (any_below n t) (subst (λ (m : ℕ). t m ≡ true) z e))
    (λ z. or_right (t n) (any_below n t) (below_at n t q (omega arith) e))

module _ (L : Ledger) (p k : ℕ) where
  abbrev another : ℕ → Bool
  another q = not (eqb q p) && wrote_key (L.at q).did k

  abbrev since : ℕ → Bool
  since m = leb (L.at p).seen m && wrote_key (done_at L m).did k

  contested_of : contested L p k ≡ true → Contested L p k
  contested_of e = cases (or_cases (any_below all_places another) (any_below (length L.past) since) e)
      (λ h.
      let r = below_true all_places another h in
      let d = eqb-false _ _ (not-true _ (and_left (not (eqb r.0 p)) (wrote_key (L.at r.0).did k) r.2)) in
      inl (r.0, r.1, d, some_of _ (and_right (not (eqb r.0 p)) (wrote_key (L.at r.0).did k) r.2)))
      (λ h.
      let r = below_true (length L.past) since h in
      let l = leb-true _ _ (and_left (leb (L.at p).seen r.0) (wrote_key (done_at L r.0).did k) r.2) in
      inr (r.0, l, r.1, some_of _ (and_right (leb (L.at p).seen r.0) (wrote_key (done_at L r.0).did k) r.2)))

  pub of_contested : Contested L p k → contested L p k ≡ true
  of_contested c = cases c
      (λ u. or_left (any_below all_places another) (any_below (length L.past) since)
      (below_at all_places another u.0 u.1 (both (ap not (ne_eqb _ _ u.2)) (ap is_some u.3.1))))
      (λ u. or_right (any_below all_places another) (any_below (length L.past) since)
      (below_at (length L.past) since u.0 u.2 (both (le-leb _ _ u.1) (ap is_some u.3.1))))

  not_contested : (Contested L p k → ⊥) → contested L p k ≡ false
  not_contested n = cases (two (contested L p k)) (λ e. absurd (n (contested_of e))) (λ e. e)

prepared_busy : (s : State) → is_prepared s ≡ true → not (is_idle s) ≡ true
prepared_busy State.Idle e = absurd (false≢true e)
prepared_busy State.Open e = refl
prepared_busy State.Spoiled e = refl
prepared_busy State.Prepared e = refl

-- A FOREIGN PREPARED CELL IS A PREPARED TRANSACTION'S WRITE
module _ (b : Board) (cs : List Cell) (L : Ledger) (𝓛 : Linked b cs L) (p k : ℕ) where
  abbrev prepared : ℕ → Bool
  prepared q = is_prepared (L.at q).state && wrote_key (L.at q).did k

  foreign_cell : (u : ℕ) → foreign_with k (number_at b p) u cs ≡ true → (i : ℕ) × Draft (cell_at cs i) u k
  unfolding foreign_with
  foreign_cell u e =
      let r = has_found (foreign_of k (number_at b p) u) cs e in
      let c = cell_at cs r.at in
      let a = and_right (of_key k c) (foreign (number_at b p) c && eqb c.number u) r.passes in (
        r.at,
        record {
          word = eqb-true _ _ (and_left (of_key k c) (foreign (number_at b p) c && eqb c.number u) r.passes);
          commit = (foreign_facts c (number_at b p) (and_left (foreign (number_at b p) c) (eqb c.number u) a)).0;
          number = eqb-true _ _ (and_right (foreign (number_at b p) c) (eqb c.number u) a);
        },
      )

  cell_foreign : (u i : ℕ) → Draft (cell_at cs i) u k → (u ≡ number_at b p → ⊥) → foreign_with k (number_at b p) u cs ≡ true
  unfolding foreign_with
  cell_foreign u i d n =
      some_has (foreign_of k (number_at b p) u) cs i (in_cells cs i k d.word)
      (both (eq-eqb _ _ d.word) (both (foreign_of_lem (cell_at cs i) (number_at b p) u k d n) (eq-eqb _ _ d.number)))

  held_hidden : held_back k (number_at b p) b.places cs ≡ true → hidden L k ≡ true
  unfolding held_back
  held_hidden e =
      let g = place_found (holds_back k (number_at b p) cs) b.places e in
      let q = g.at in
      let x = place_at b q in
      let l : q < all_places = omega (arith, g.inside, 𝓛.sixteen) in
      let s = and_left (is_prepared x.state) (foreign_with k (number_at b p) x.number cs) g.passes in
      let r = foreign_cell x.number (and_right (is_prepared x.state) (foreign_with k (number_at b p) x.number cs) g.passes) in
      let w = own_cell b cs L 𝓛 q r.0 k l (prepared_busy x.state s) r.1 in
      below_at all_places prepared q l (both (ap is_prepared (sym (𝓛.placed q l).state) ∙ s) (ap is_some w))

  hidden_held : p < all_places → (place_at b p).state ≡ State.Open → hidden L k ≡ true → held_back k (number_at b p) b.places cs ≡ true
  unfolding held_back
  hidden_held l o e =
      let r = below_true all_places prepared e in
      let q = r.0 in
      let s : is_prepared (place_at b q).state ≡ true =
      ap is_prepared (𝓛.placed q r.1).state ∙ and_left (is_prepared (L.at q).state) (wrote_key (L.at q).did k) r.2 in
      let w = some_of _ (and_right (is_prepared (L.at q).state) (wrote_key (L.at q).did k) r.2) in
      let d = 𝓛.drafted q k w.0 r.1 w.1 in
      let n : number_at b q ≡ number_at b p → ⊥ =
      λ z. let y = same_place b cs L 𝓛 q p r.1 l (prepared_busy (place_at b q).state s) (open_busy b cs L 𝓛 p o) z in
      clash s (ap (λ (x : ℕ). is_prepared (place_at b x).state) y ∙ ap is_prepared o) in
      some_place (holds_back k (number_at b p) cs) b.places q (omega (arith, r.1, 𝓛.sixteen)) (both s (cell_foreign (number_at b q) d.0 d.1 n))

  not_hidden : p < all_places → (place_at b p).state ≡ State.Open → held_back k (number_at b p) b.places cs ≡ false → hidden L k ≡ false
  not_hidden l o e = cases (two (hidden L k)) (λ h. clash (hidden_held l o h) e) (λ h. h)

-- THE CHECKS

module _ (st : Store) (L : Ledger) (s : in_shape st.board (length st.words) ≡ true) (𝓛 : Linked st.board (cells_in st) L) where
  abbrev b : Board
  b = st.board

  abbrev cs : List Cell
  cs = cells_in st

  -- the ledger's checks are the board's
  same_checks : (c : Call) → check_of (facts st c) ≡ checks_of L c
  same_checks c =
      rw (s, 𝓛.begun) (same_check true (place_at b (place_of c)).state (L.at (place_of c)).state L.starts c (λ l. (𝓛.placed (place_of c) l).state))

  -- THE STEPS PROPER
  -- what the step says is due; or it is FULL
  abbrev Due : Call → Outcome → Type 0
  Due c o = (o.said ≡ said_of (due L c)) ⊎ ((o.said ≡ said_of (Err Refusal.Full)) × NeedsCell L c)

  read_due : (p k : ℕ) → p < all_places → (place_at b p).state ≡ State.Open → Due (Call.Read p k) (read_as st p k)
  read_due p k l o =
      on_read (Due (Call.Read p k)) st p k
      (λ i f. inl (rw (own_cell b cs L 𝓛 p i k l (open_busy b cs L 𝓛 p o) (own_draft (number_at b p) k cs i f)) refl))
      (λ n t. inl (rw (not_written b cs L 𝓛 p k l n, held_hidden b cs L 𝓛 p k t) refl))
      (λ n t. inl (rw (not_written b cs L 𝓛 p k l n, not_hidden b cs L 𝓛 p k l o t)
      (ap (λ (v : ℕ). said_of (Ok v))
      (live_read b cs L 𝓛 (view_at b p) (inr (p, l, o, refl)) k
      ∙ ap (λ (w : ℕ). leave (take w L.past) k) (𝓛.placed p l).view))))

  update_due : (p k v : ℕ) → p < all_places → (place_at b p).state ≡ State.Open → leb all_keys k ≡ false
      → Due (Call.Update p k v) (updated_as st p k v)
  update_due p k v l o m =
      let h = open_busy b cs L 𝓛 p o in
      on_update (Due (Call.Update p k v)) st p k v
      (λ i f. inl (rw (own_cell b cs L 𝓛 p i k l h (own_draft (number_at b p) k cs i f)) refl))
      (λ n t. inl (rw (not_written b cs L 𝓛 p k l n, of_contested L p k (conflict_contested b cs L 𝓛 p k l t)) refl))
      (λ n t i _. inl (rw (not_written b cs L 𝓛 p k l n, not_contested L p k (λ c. clash (contested_conflict b cs L 𝓛 p k l h c) t)) refl))
      (λ n t _. inr (
        refl,
        record {
          place = p;
          key = k;
          value = v;
          call = refl;
          reaches =
              record { place = l; key = leb-false _ _ m; state = sym (𝓛.placed p l).state ∙ o; first = not_written b cs L 𝓛 p k l n };
          clear = not_contested L p k (λ c. clash (contested_conflict b cs L 𝓛 p k l h c) t);
        },
      ))

  done_due : (c : Call) → Cleared (facts st c) → Due c (done st c)
  done_due (Call.Start p) g = inl (ap (λ (n : ℕ). said_of (Ok (n + 1))) 𝓛.begun)
  done_due (Call.Read p k) g =
      read_due p k (leb-false _ _ (g (Err Refusal.Place)))
      (open_of (place_at b p).state (g (Err Refusal.Idle)) (g (Err Refusal.Spoiled)) (g (Err Refusal.Held)))
  done_due (Call.Update p k v) g =
      update_due p k v (leb-false _ _ (g (Err Refusal.Place)))
      (open_of (place_at b p).state (g (Err Refusal.Idle)) (g (Err Refusal.Spoiled)) (g (Err Refusal.Held))) (g (Err Refusal.Key))
  done_due (Call.Prepare p) g = inl refl
  done_due (Call.Commit p) g = inl (ap (λ (n : ℕ). said_of (Ok (n + 1))) 𝓛.counted)
  done_due (Call.Rollback p) g = inl refl

  -- EVERY CALL
  step_right : (c : Call) → Right L (pair_of st c)
  unfolding step verdict
  step_right c = cases (two (eqb (number_of (checks_of L c)) 0))
      (λ e. rw (same_checks c, e) (done_due c (cleared (facts st c) (ap number_of (same_checks c) ∙ eqb-true _ _ e))))
      (λ e. inl (rw (same_checks c, e) refl))

  -- FULL
  full_exact : (p k v : ℕ) → Reaches L p k → contested L p k ≡ false
      → ((step st (Call.Update p k v)).said.number ≡ number_of (Err Refusal.Full)) ↔ Packed (length cs) L
  full_exact p k v r c =
      let o = (𝓛.placed p r.place).state ∙ r.state in
      let P : Outcome → Type 0 = λ x. (x.said.number ≡ number_of (Err Refusal.Full)) ↔ Packed (length cs) L in
      rw (reaches st L s 𝓛 p k v r.place r.key o)
      (on_update P st p k v
      (λ i f. none_some (wrote L p k) (cell_at cs i).value r.first
      (own_cell b cs L 𝓛 p i k r.place (open_busy b cs L 𝓛 p o) (own_draft (number_at b p) k cs i f)))
      (λ n t. clash (of_contested L p k (conflict_contested b cs L 𝓛 p k r.place t)) c)
      (λ n t i f. (λ e. absurd (omega arith), λ q. absurd (nothing_found (reusable b.places cs) i f (packed_full b cs L 𝓛 q))))
      (λ n t f. (λ _. full_packed b cs L 𝓛 f, λ _. refl)))
    where
      nothing_found : (x : Found ℕ) (i : ℕ) → x ≡ Some i → x ≡ None → ⊥
      nothing_found x i e f = let z : ◌≡◌ {A = ℕ} 0 1 = cc in omega arith

pub all_right : AllRight
all_right n h l calls before after x e =
    let s = at n h l calls before after x e in
    let r = step_right s.store (ledger before) s.shape s.linked x.call in
    rw (← s.said) at r

pub full_right : FullRight
full_right n h l calls before after x e need =
    let s = at n h l calls before after x e in
    let c = Call.Update need.place need.key need.value in
    let y : x.said.number ≡ (step s.store c).said.number =
    ap (λ (x : Said). x.number) s.said ∙ ap (λ (c : Call). (step s.store c).said.number) need.call in
    let m : length (cells_in s.store) ≡ n = length_cells s.store.words ∙ ap (λ (w : ℕ). w / 4) s.sized ∙ empty_count n in
    let r = full_exact s.store (ledger before) s.shape s.linked need.place need.key need.value need.reaches need.clear in
    subst (λ (u : ℕ). (u ≡ number_of (Err Refusal.Full)) ↔ Packed n (ledger before)) (sym y)
    (subst (λ (j : ℕ). ((step s.store c).said.number ≡ number_of (Err Refusal.Full)) ↔ Packed j (ledger before)) m r)

-- A LEDGER AND THE NUMBER OF CELLS DECIDE

is_full : (a : Answer) → number_of a ≡ 11 → a ≡ Err Refusal.Full
is_full (Ok v) e = absurd (omega arith)
is_full (Err Refusal.Board) e = absurd (omega arith)
is_full (Err Refusal.Place) e = absurd (omega arith)
is_full (Err Refusal.Busy) e = absurd (omega arith)
is_full (Err Refusal.Idle) e = absurd (omega arith)
is_full (Err Refusal.Worn) e = absurd (omega arith)
is_full (Err Refusal.Spoiled) e = absurd (omega arith)
is_full (Err Refusal.Held) e = absurd (omega arith)
is_full (Err Refusal.Key) e = absurd (omega arith)
is_full (Err Refusal.Conflict) e = absurd (omega arith)
is_full (Err Refusal.Prepared) e = absurd (omega arith)
is_full (Err Refusal.Full) e = refl
is_full (Err Refusal.Record) e = absurd (omega arith)

module _ (n : ℕ) (L : Ledger) where
  abbrev ExactFull : Pair → Type 0
  ExactFull x = NeedsCell L x.call → (x.said.number ≡ number_of (Err Refusal.Full)) ↔ Packed n L

  -- one has the verdict, the other FULL
  mixed : (x y : Pair) → x.call ≡ y.call → ExactFull x → ExactFull y → Answers x (verdict L x.call)
      → Answers y (Err Refusal.Full) → NeedsCell L y.call → x.said ≡ y.said
  mixed x y c f g a b need =
      let number : (s t : Said) → s ≡ t → s.number ≡ t.number = λ s t. ap (λ (u : Said). u.number) in
      let e : x.said.number ≡ 11 = (f (subst (λ (d : Call). NeedsCell L d) (sym c) need)).1 ((g need).0 (number _ _ b)) in
      a ∙ ap said_of (is_full (verdict L x.call) (sym (number _ _ a) ∙ e)) ∙ sym b

  agree : (x y : Pair) → x.call ≡ y.call → ExactFull x → ExactFull y → Right L x → Right L y → x.said ≡ y.said
  agree x y c f g r r' = cases r
      (λ a. cases r'
      (λ b. a ∙ ap (λ (d : Call). said_of (verdict L d)) c ∙ sym b)
      (λ b. mixed x y c f g a b.0 b.1))
      (λ a. cases r'
      (λ b. sym (mixed y x (sym c) g f b a.0 a.1))
      (λ b. a.0 ∙ sym b.0))

pub decided : Decided
decided n h l calls calls' before after before' after' x y e e' same c =
    agree n (ledger before) x y c (full_right n h l calls before after x e)
    (subst (λ (L : Ledger). ExactFull n L y) (sym same) (full_right n h l calls' before' after' y e'))
    (all_right n h l calls before after x e)
    (subst (λ (L : Ledger). Right L y) (sym same) (all_right n h l calls' before' after' y e'))
