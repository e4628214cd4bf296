-- Any sequence of `lane_serve`s from zero words tells the history of the calls tried.
--     served_..       what serving on a record leaves and writes
--     held            what all of them leave
--     three           a history in three parts: before one lane_serve, its own, and after it
--     serves_tell     each wrote the answers of its part, and the last words are the record's and the cells'
-- Assumes nothing.
use Rattle.std.specs.Prelude.{Some}
use mathlib.Core.Path.{◌≡◌, refl, sym, ap, ◌∙◌, subst}
use mathlib.Core.Bool.{Bool, true}
use mathlib.Core.List.{List, [], ◌∷◌, ◌++◌, append_assoc}
use Prim.Native.Nat.{ℕ, zero, suc, ◌+◌, ◌*◌, ◌≤◌, ◌<◌}
use native.Mathlib.Nat.{le_of_suc-le-suc, not-suc-le-zero}
use native.Mathlib.Omega.{arith}
use lib.ListN.{length, get_or, take, drop, length-append, get_or-append}
use lib.Seq.{take_at, drop_at, get_or-append-add}
use borrow.Author.Tests.{ltb-true}
use Rattle.records.specs.declared.Call.{Call}
use Rattle.records.specs.Format.{call_bytes, call_fits, call_at, put_at}
use Rattle.steps.specs.Record.{all_places, most_cells}
use Rattle.steps.specs.Store.{Store, fresh_store}
use Rattle.steps.specs.Run.{Pair, Run, run}
use Rattle.steps.proofs.Run.{run_append, run_length, run_call}
use Rattle.lanes.specs.declared.Stop.{Stop}
use Rattle.lanes.specs.Serve.{replies_of, records_of, tried, Serving, serve_first, serve_of, serve_into}
use Rattle.history.specs.History.{no_pair, from_fresh, Demand3}
use Rattle.history.specs.Bytes.{Tells, met_no_call}
use Rattle.history.proofs.Demand.{demand3}
use Rattle.history.proofs.Bytes.{no_start, calls_stand, calls_end, stands_fit, record_if, Recorded, told, recorded, front}
use Rattle.lane_c.specs.Words.{record_of, words_of_record}
use Rattle.lane_c.specs.Call.{store_of}
use Rattle.lane_c.specs.Serve.{why_of, why_board, Handed, serving_words}
use Rattle.lane_c.proofs.Words.{record_words_lem}
use Rattle.lane_c.proofs.Kept.{serve_on_lem}
use Rattle.hosts.specs.Serves.{Lent, serve_on, Held, serves_on, serves_from_zeros, calls_tried, calls_lent, history_of, part_of}
use Rattle.hosts.specs.Serves.{ServedTells, ServesPromise}
use Rattle.hosts.proofs.Fresh.{zero_record, zero_cells, run_full}

-- THE LAST WORDS

-- the words of a run's record and cells
abbrev held_by : Run → Held
held_by p = record { words = words_of_record p.store.board; cells = p.store.words }

-- serving leaves the store of its run
pub served_store : (st : Store) (l : Lent) → (serve_into st l.calls l.answers).store ≡ (run st (calls_tried l)).store
unfolding serve_of serve_first
served_store st l = refl

-- and writes the answers of its run
pub served_bytes : (st : Store) (l : Lent)
    → take (serve_into st l.calls l.answers).written (serve_into st l.calls l.answers).answers
    ≡ records_of (replies_of (run st (calls_tried l))) ++ record_if (met_no_call l.calls (length l.answers))
unfolding serve_of serve_first
served_bytes st l =
    front l.answers (records_of (replies_of (run st (calls_tried l))) ++ record_if (met_no_call l.calls (length l.answers)))

-- and leaves the bytes past them
past_answers : (bs rec : List ℕ) → drop (length rec) (put_at bs 0 rec) ≡ drop (length rec) bs
unfolding put_at
past_answers bs rec =
    let e : 0 + length rec ≡ length rec = omega arith in
    drop_at rec (drop (0 + length rec) bs) (length rec) refl ∙ ap (λ (k : ℕ). drop k bs) e

served_past : (st : Store) (l : Lent)
    → drop (serve_into st l.calls l.answers).written (serve_into st l.calls l.answers).answers
    ≡ drop (serve_into st l.calls l.answers).written l.answers
served_past st l = past_answers l.answers (serve_of st l.calls (length l.answers)).answers

-- one after another they leave the words of the run of all their calls
all_held : (lent : List Lent) (st : Store) → length st.board.places ≡ all_places
    → serves_on (words_of_record st.board) st.words lent ≡ held_by (run st (calls_lent lent))
unfolding serves_on calls_lent run
all_held [] st full = refl
all_held (l ∷ ls) st full =
    ap (λ (x : Handed). serves_on x.words x.cells ls) (serve_on_lem st full l.calls l.answers)
    ∙ ap (λ (x : Store). serves_on (words_of_record x.board) x.words ls) (served_store st l)
    ∙ all_held ls (run st (calls_tried l)).store (run_full st (calls_tried l) full)
    ∙ ap held_by (sym (run_append st (calls_tried l) (calls_lent ls)))

held : (n : ℕ) (lent : List Lent) → serves_from_zeros n lent ≡ held_by (history_of n lent)
held n lent = (λ i. serves_on (zero_record i) (zero_cells n i) lent) ∙ all_held lent (fresh_store n) refl

-- THE CALLS LENT

lent_append : (before more : List Lent) → calls_lent (before ++ more) ≡ calls_lent before ++ calls_lent more
unfolding calls_lent
lent_append [] more = refl
lent_append (l ∷ ls) more =
    ap (λ (cs : List Call). calls_tried l ++ cs) (lent_append ls more) ∙ sym (append_assoc (calls_tried l) (calls_lent ls) (calls_lent more))

lent_next : (l : Lent) (after : List Lent) → calls_lent (l ∷ after) ≡ calls_tried l ++ calls_lent after
unfolding calls_lent
lent_next l after = refl

-- each has a record, as it was read from one
abbrev Fit : List Call → Type 0
Fit cs = (i : ℕ) → i < length cs → call_fits (get_or cs i no_start) ≡ true

fit_append : (cs ds : List Call) → Fit cs → Fit ds → Fit (cs ++ ds)
fit_append [] ds f g i h = g i h
fit_append (c ∷ cs) ds f g zero h = f zero (omega arith)
fit_append (c ∷ cs) ds f g (suc i) h = fit_append cs ds (λ j k. f (suc j) (omega arith)) g i (le_of_suc-le-suc h)

lent_fit : (lent : List Lent) → Fit (calls_lent lent)
unfolding calls_lent
lent_fit [] = λ i h. absurd (not-suc-le-zero h)
lent_fit (l ∷ ls) =
    fit_append (calls_tried l) (calls_lent ls)
    (stands_fit l.calls (calls_tried l) (calls_stand (tried l.calls (length l.answers)) l.calls)) (lent_fit ls)

-- ONE OF THEM

-- no reason to stop is 3 BOARD
a_record : (s : Stop) → why_of s ≡ why_board → ⊥
a_record Stop.End e = omega arith
a_record Stop.Record e = omega arith
a_record Stop.Room e = omega arith

module _ (n : ℕ) (h : 0 < n) (m : n ≤ most_cells) (lent before after : List Lent) (l : Lent) (e : lent ≡ before ++ (l ∷ after)) where
  abbrev hs : List Pair
  hs = (history_of n lent).pairs

  -- the history before it, and its own part
  abbrev first : Run
  first = history_of n before

  abbrev own : Run
  own = run first.store (calls_tried l)

  -- the three parts of the history
  abbrev rest : List Pair
  rest = (run own.store (calls_lent after)).pairs

  three : hs ≡ first.pairs ++ (own.pairs ++ rest)
  three =
      let calls : calls_lent lent ≡ calls_lent before ++ (calls_tried l ++ calls_lent after) =
      ap calls_lent e ∙ lent_append before (l ∷ after) ∙ ap (λ (cs : List Call). calls_lent before ++ cs) (lent_next l after) in
      ap (λ (cs : List Call). (from_fresh n cs).pairs) calls
      ∙ ap (λ (p : Run). p.pairs) (run_append (fresh_store n) (calls_lent before) (calls_tried l ++ calls_lent after))
      ∙ ap (λ (p : Run). first.pairs ++ p.pairs) (run_append first.store (calls_tried l) (calls_lent after))

  -- its part is the second
  own_part : own.pairs ≡ part_of hs before l
  own_part =
      sym
      (ap (λ (ps : List Pair). take (length (calls_tried l)) (drop (length (calls_lent before)) ps)) three
      ∙ ap (λ (ps : List Pair). take (length (calls_tried l)) ps)
      (drop_at first.pairs (own.pairs ++ rest) (length (calls_lent before)) (run_length (fresh_store n) (calls_lent before)))
      ∙ take_at own.pairs rest (length (calls_tried l)) (run_length first.store (calls_tried l)))

  read : (i : ℕ) → i < length own.pairs → call_at l.calls (call_bytes * i) ≡ Some (get_or own.pairs i no_pair).call
  read i g =
      let many : length own.pairs ≡ length (calls_tried l) = run_length first.store (calls_tried l) in
      calls_stand (tried l.calls (length l.answers)) l.calls i (omega arith)
      ∙ ap Some (sym (run_call first.store (calls_tried l) i no_pair))

  has : (i : ℕ) → i < length own.pairs → Recorded (get_or own.pairs i no_pair)
  has i g =
      let j : ℕ = length first.pairs + i in
      let there : get_or hs j no_pair ≡ get_or own.pairs i no_pair =
      ap (λ (ps : List Pair). get_or ps j no_pair) three
      ∙ get_or-append-add first.pairs (own.pairs ++ rest) i no_pair
      ∙ get_or-append own.pairs rest no_pair i g in
      let long : length hs ≡ length first.pairs + (length own.pairs + length rest) = ap length three ∙ simp length-append in
      subst Recorded there (recorded n h m (calls_lent lent) (lent_fit lent) j (omega arith))

  -- what lane_serve handed back there
  abbrev serving : Serving
  serving = serve_into first.store l.calls l.answers

  handed : serve_on (serves_from_zeros n before).words (serves_from_zeros n before).cells l ≡ serving_words serving
  handed =
      ap (λ (k : Held). serve_on k.words k.cells l) (held n before)
      ∙ serve_on_lem first.store (run_full (fresh_store n) (calls_lent before) refl) l.calls l.answers

  abbrev met : Bool
  met = met_no_call l.calls (length l.answers)

  own_bytes : take serving.written serving.answers ≡ records_of (replies_of own) ++ record_if met
  own_bytes = served_bytes first.store l

  took : serving.taken ≡ call_bytes * length (calls_tried l)
  unfolding serve_of serve_first
  took = refl

  one_tells : ServedTells hs before l (serve_on (serves_from_zeros n before).words (serves_from_zeros n before).cells l)
  one_tells =
      let bytes : List ℕ = take serving.written serving.answers in
      let records : ℕ = tried l.calls (length l.answers) in
      subst (λ (x : Handed). ServedTells hs before l x) (sym handed)
      (record {
        tells = subst (λ (ps : List Pair). Tells ps l.calls bytes met) own_part (told own.pairs l.calls bytes met read has own_bytes);
        last = λ t. (calls_end records l.calls).1 (ltb-true (length (calls_tried l)) records t);
        kept = served_past first.store l;
        taken = took;
        board = a_record serving.stop;
      })

pub serves_tell : ServesPromise
serves_tell n h m lent =
    let p : Run = history_of n lent in
    let words : (serves_from_zeros n lent).words ≡ words_of_record p.store.board = ap (λ (k : Held). k.words) (held n lent) in
    let cells : (serves_from_zeros n lent).cells ≡ p.store.words = ap (λ (k : Held). k.cells) (held n lent) in
    let board : record_of (serves_from_zeros n lent).words ≡ p.store.board =
    ap record_of words ∙ record_words_lem p.store.board (run_full (fresh_store n) (calls_lent lent) refl) in
    let same : p ≡ record { pairs = p.pairs; store = store_of (serves_from_zeros n lent).words (serves_from_zeros n lent).cells } =
    sym (λ i. record { pairs = p.pairs; store = Rattle.steps.specs.Store.lent (board i) (cells i) }) in
    record {
      told = λ before after l e. one_tells n h m lent before after l e;
      words = words;
      cells = cells;
      demand3 = subst Demand3 same (demand3 n h m (calls_lent lent));
    }
