-- Demand 3, for every sequence of calls on a fresh board: reads, apart, conflicts, final, and all four as demand3.
--     Here, here     at every pair of a history stands a board in shape, linked to the ledger of the pairs before, whose step gave the answer
-- Assumes nothing.
use Rattle.std.specs.Prelude.{Ok, Err}
use mathlib.Core.Path.{◌≡◌, refl, sym, ap, ◌∙◌, subst}
use mathlib.Core.Logic.{◌↔◌}
use mathlib.Core.Bool.{true}
use mathlib.Core.List.{List, [], ◌∷◌, ◌++◌}
use mathlib.Core.Option.{none}
use Prim.Native.Nat.{ℕ, zero, suc, ◌+◌, ◌*◌, ◌/◌, ◌%◌, ◌≤◌, ◌<◌}
use native.Mathlib.Omega.{arith}
use lib.ListN.{length, get_or, replicate, length-replicate}
use borrow.Author.Tests.{leb-false, lt-leb, le-leb, eq-eqb}
use Rattle.records.specs.declared.Call.{Call}
use Rattle.records.specs.declared.Refusal.{Refusal}
use Rattle.records.specs.Answers.{number_of}
use Rattle.cells.specs.declared.Cell.{Cell}
use Rattle.cells.specs.Cells.{no_cell, words_of, whole_cells}
use Rattle.cells.proofs.Words.{cells_words, length_with, whole_words}
use Rattle.steps.specs.declared.State.{State}
use Rattle.steps.specs.declared.Board.{Board}
use Rattle.steps.specs.Record.{all_places, all_keys, most_cells, idle_place, place_at}
use Rattle.steps.specs.Shape.{in_shape}
use Rattle.steps.specs.Check.{first_of, check_of}
use Rattle.steps.specs.Store.{Store, Said, Outcome, cells_in, fresh_store}
use Rattle.steps.specs.Step.{updated_as, step}
use Rattle.steps.specs.Run.{Pair, pair_of, run}
use Rattle.steps.proofs.Tests.{and_both as both}
use Rattle.steps.proofs.Cases.{on_step, open_of}
use Rattle.steps.proofs.Keeps.{keeps_shape, keeps_lengths}
use Rattle.history.specs.History.{answered_by, Ledger, new_ledger, note, ledger_from, ledger, sees, from_fresh}
use Rattle.history.specs.History.{Contested, Reaches, ReadsRight, OverlappedApart, ConflictsExact, LastHolds, Statement}
use Rattle.history.proofs.Basics.{none_some}
use Rattle.history.proofs.Facts.{cell_at}
use Rattle.history.proofs.Link.{Linked}
use Rattle.history.proofs.Seen.{board_holds, read_right, conflict_exact}
use Rattle.history.proofs.Timed.{Timed, fresh_timed, timed_note, timed}
use Rattle.history.proofs.Fair.{Fair, fresh_fair, overlapped_apart}
use Rattle.history.proofs.Steps.{step_links, step_fair}

-- ANSWERS AT ONE STEP

module _ (st : Store) (L : Ledger) (s : in_shape st.board (length st.words) ≡ true) (𝓛 : Linked st.board (cells_in st) L) where
  abbrev b : Board
  b = st.board

  -- the checks are passed by an update that reaches the conflict test
  pub reaches : (p k v : ℕ) → p < all_places → k < all_keys → (place_at b p).state ≡ State.Open
      → step st (Call.Update p k v) ≡ updated_as st p k v
  unfolding step check_of first_of
  reaches p k v l m o = rw (s, lt-leb all_places p l, o, lt-leb all_keys k m)

  refuses : (p k v : ℕ) → Reaches L p k → ((step st (Call.Update p k v)).said.number ≡ number_of (Err Refusal.Conflict)) ↔ Contested L p k
  refuses p k v r =
      let o = (𝓛.placed p r.place).state ∙ r.state in
      rw (reaches p k v r.place r.key o) (conflict_exact st L 𝓛 p k v r.place o r.first)

  shown : (p k : ℕ) → (step st (Call.Read p k)).said.number ≡ 0 → (step st (Call.Read p k)).said.value ≡ sees L p k
  shown p k =
      on_step (λ (o : Outcome). o.said.number ≡ 0 → o.said.value ≡ sees L p k) st (Call.Read p k)
      (λ a h e. absurd (h.refusal e))
      (λ g. read_right st L 𝓛 p k (leb-false _ _ (g (Err Refusal.Place)))
      (open_of (place_at b p).state (g (Err Refusal.Idle)) (g (Err Refusal.Spoiled)) (g (Err Refusal.Held))))

-- ALONG A HISTORY

-- the store at which a pair of a history was answered
pub record Here (size : ℕ) (L : Ledger) (h : Pair) : Type 0 where
  pub store : Store
  pub sized : length store.words ≡ size
  pub shape : in_shape store.board (length store.words) ≡ true
  pub linked : Linked store.board (cells_in store) L
  pub said : h.said ≡ (step store h.call).said

-- the last store and the ledger of all pairs
pub record There (st : Store) (L : Ledger) : Type 0 where
  pub linked : Linked st.board (cells_in st) L
  pub fair : Fair L

there : (cs : List Call) (st : Store) (L : Ledger) → in_shape st.board (length st.words) ≡ true → Linked st.board (cells_in st) L
    → Timed L → Fair L → There (run st cs).store (ledger_from L (run st cs).pairs)
unfolding run ledger_from
there [] st L s 𝓛 t f = record { linked = 𝓛; fair = f }
there (c ∷ cs) st L s 𝓛 t f =
    there cs (step st c).store (note L (pair_of st c)) (keeps_shape st c s) (step_links st L 𝓛 c s)
    (timed_note L t (pair_of st c)) (step_fair st L 𝓛 t f c)

head_eq : (x y : Pair) (xs ys : List Pair) → x ∷ xs ≡ y ∷ ys → x ≡ y
head_eq x y xs ys e = cc

tail_eq : (x y : Pair) (xs ys : List Pair) → x ∷ xs ≡ y ∷ ys → xs ≡ ys
tail_eq x y xs ys e = cc

not_empty : {A : Type 0} (y : Pair) (ys : List Pair) → [] ≡ y ∷ ys → A
not_empty y ys e = absurd (let z : ◌≡◌ {A = ℕ} 0 1 = cc in omega arith)

run_cons : (st : Store) (c : Call) (cs : List Call) → (run st (c ∷ cs)).pairs ≡ pair_of st c ∷ (run (step st c).store cs).pairs
unfolding run
run_cons st c cs = refl

run_nil : (st : Store) → (run st []).pairs ≡ []
unfolding run
run_nil st = refl

ledger_nil : (L : Ledger) → ledger_from L [] ≡ L
unfolding ledger_from
ledger_nil L = refl

here_now : (st : Store) (L : Ledger) (size : ℕ) → length st.words ≡ size → in_shape st.board (length st.words) ≡ true
    → Linked st.board (cells_in st) L → (c : Call) (h : Pair) → pair_of st c ≡ h → Here size L h
here_now st L size z s 𝓛 c h e =
    subst (λ (x : Pair). Here size L x) e (record { store = st; sized = z; shape = s; linked = 𝓛; said = refl })

here_later : (st : Store) (L : Ledger) (size : ℕ) (c : Call) (x h : Pair) (before : List Pair) → pair_of st c ≡ x
    → Here size (ledger_from (note L (pair_of st c)) before) h → Here size (ledger_from L (x ∷ before)) h
unfolding ledger_from
here_later st L size c x h before e r = subst (λ (y : Pair). Here size (ledger_from (note L y) before) h) e r

here : (cs : List Call) (st : Store) (L : Ledger) (size : ℕ) → length st.words ≡ size
    → in_shape st.board (length st.words) ≡ true → Linked st.board (cells_in st) L
    → (before after : List Pair) (h : Pair) → (run st cs).pairs ≡ before ++ (h ∷ after) → Here size (ledger_from L before) h
here [] st L size z s 𝓛 [] after h e = not_empty h after (sym (run_nil st) ∙ e)
here [] st L size z s 𝓛 (x ∷ before) after h e = not_empty x (before ++ (h ∷ after)) (sym (run_nil st) ∙ e)
here (c ∷ cs) st L size z s 𝓛 [] after h e =
    rw (ledger_nil L) (here_now st L size z s 𝓛 c h (head_eq (pair_of st c) h _ after (sym (run_cons st c cs) ∙ e)))
here (c ∷ cs) st L size z s 𝓛 (x ∷ before) after h e =
    here_later st L size c x h before (head_eq (pair_of st c) x _ (before ++ (h ∷ after)) (sym (run_cons st c cs) ∙ e))
    (here cs (step st c).store (note L (pair_of st c)) size ((keeps_lengths st c).0 ∙ z) (keeps_shape st c s)
    (step_links st L 𝓛 c s) before after h (tail_eq (pair_of st c) x _ (before ++ (h ∷ after)) (sym (run_cons st c cs) ∙ e)))

-- A FRESH BOARD

blank_place : (n p : ℕ) → get_or (replicate n idle_place) p idle_place ≡ idle_place
blank_place zero p = refl
blank_place (suc n) zero = refl
blank_place (suc n) (suc p) = blank_place n p

blank_cell : (n i : ℕ) → get_or (replicate n no_cell) i no_cell ≡ no_cell
blank_cell zero p = refl
blank_cell (suc n) zero = refl
blank_cell (suc n) (suc p) = blank_cell n p

words_length : (cs : List Cell) → length (words_of cs) ≡ 4 * length cs
words_length cs = ap length (sym (whole_words [] cs refl)) ∙ length_with [] cs ∙ omega arith

empty_length : (n : ℕ) → length (fresh_store n).words ≡ 4 * n
empty_length n = words_length (replicate n no_cell) ∙ ap (λ (m : ℕ). 4 * m) (length-replicate n no_cell)

pub empty_count : (n : ℕ) → length (fresh_store n).words / 4 ≡ n
empty_count n = omega (arith, empty_length n)

whole : (n words : ℕ) → words ≡ 4 * n → 0 < n → n ≤ most_cells → whole_cells most_cells words ≡ true
whole n words e h l =
    both (both (eq-eqb (words % 4) 0 (omega arith)) (le-leb 1 (words / 4) (omega arith))) (le-leb (words / 4) most_cells (omega arith))

module _ (n : ℕ) (h : 0 < n) (l : n ≤ most_cells) where
  pub fresh_shape : in_shape (fresh_store n).board (length (fresh_store n).words) ≡ true
  unfolding in_shape
  fresh_shape = rw (whole n (length (fresh_store n).words) (empty_length n) h l)

  pub fresh_links : Linked (fresh_store n).board (cells_in (fresh_store n)) new_ledger
  fresh_links =
      rw (cells_words (replicate n no_cell))
      (record {
        numbers = refl;
        sixteen = refl;
        counted = refl;
        begun = refl;
        placed = λ p l. rw (blank_place all_places p) (record { state = refl; view = refl; blank = λ e k. refl });
        seen = λ p l. omega arith;
        drafts = λ i k e. absurd (empty i k e);
        pasts = λ i k m e. absurd (empty i k e);
        drafted = λ p k v l e. none_some none v refl e;
        kept = λ w live m k v g e. none_some none v refl e;
        single = λ i j t k d e. absurd (empty i k d.word);
        unique = λ i j k m d e. absurd (empty i k d.word);
      })
    where
      empty : (i k : ℕ) → (cell_at (replicate n no_cell) i).word ≡ k + 1 → ⊥
      empty i k e = let z : 0 ≡ k + 1 = ap (λ (x : Cell). x.word) (sym (blank_cell n i)) ∙ e in omega arith

  -- DEMAND 3
  module _ (calls : List Call) where
    abbrev hs : List Pair
    hs = (from_fresh n calls).pairs

    -- the board at which a pair was answered
    pub at : (before after : List Pair) (x : Pair) → hs ≡ before ++ (x ∷ after) → Here (length (fresh_store n).words) (ledger before) x
    at before after x e = here calls (fresh_store n) new_ledger (length (fresh_store n).words) refl fresh_shape fresh_links before after x e

    pub at_end_lem : There (from_fresh n calls).store (ledger hs)
    at_end_lem = there calls (fresh_store n) new_ledger fresh_shape fresh_links fresh_timed fresh_fair

    -- each read answered shows that transaction's own last write to the key, or else what the first n committed transactions leave
    pub reads : ReadsRight hs
    reads before after p k v e =
        let s = at before after (answered_by (Call.Read p k) (Ok v)) e in
        ap (λ (x : Said). x.value) s.said
        ∙ shown s.store (ledger before) s.shape s.linked p k (sym (ap (λ (x : Said). x.number) s.said))

    -- no two committed transactions that overlapped wrote the same key
    pub apart : OverlappedApart hs
    apart = overlapped_apart (ledger hs) (timed hs) at_end_lem.fair

    -- an update that gets as far as the conflict test is refused for conflict exactly when the key is contested
    pub conflicts : ConflictsExact hs
    conflicts before after p k new said e r =
        let s = at before after (record { call = Call.Update p k new; said = said }) e in
        let x : said ≡ (step s.store (Call.Update p k new)).said = s.said in
        rw x (refuses s.store (ledger before) s.shape s.linked p k new r)

    -- the last board holds, for each key, what the committed ones leave in commit order
    pub final : LastHolds hs (from_fresh n calls).store
    final k = board_holds (from_fresh n calls).store.board (cells_in (from_fresh n calls).store) (ledger hs) at_end_lem.linked k

pub demand3 : Statement
demand3 n h l calls =
    record { reads = reads n h l calls; apart = apart n h l calls; conflicts = conflicts n h l calls; final = final n h l calls }
