-- What a host may rely on from one call to the next.
--     call_is_step          where the kind names a call and the words are a record, `lane_call` is that call's step on the record
--     serve_is_serving      where the words are a record, `lane_serve` is serving on that record
--     call_kept, serve_kept words that are a record are one afterwards too, and the cells are as many words as before
--     step_on, serve_on_lem     the same of the words of a record, as equations of all that comes back
-- Assumes nothing.
use Rattle.std.specs.Prelude.{Option, Some, None, Err}
use mathlib.Core.Path.{◌≡◌, refl, ap, ◌∙◌}
use mathlib.Core.Bool.{Bool, true, cond}
use mathlib.Core.List.{List}
use Prim.Native.Nat.{ℕ}
use lib.ListN.{length}
use Rattle.records.specs.declared.Refusal.{Refusal}
use Rattle.records.specs.declared.Call.{Call}
use Rattle.steps.specs.declared.Board.{Board}
use Rattle.steps.specs.Record.{all_places}
use Rattle.steps.specs.Store.{Store, Outcome, lent}
use Rattle.steps.specs.Step.{step}
use Rattle.steps.specs.Run.{run}
use Rattle.steps.proofs.Keeps.{keeps_lengths}
use Rattle.steps.proofs.Run.{run-keeps}
use Rattle.lanes.specs.Serve.{calls_in, tried, serve_first, serve_of, Serving, serve_into}
use Rattle.lane_c.specs.Words.{record_of, words_of_record, well_formed}
use Rattle.lane_c.specs.Call.{call_named, Crossed, store_of, refused_with, outcome_words, step_on_words, on_named, lane_call}
use Rattle.lane_c.specs.Serve.{why_of, Handed, serving_words, nothing_served, lane_serve}
use Rattle.lane_c.proofs.Words.{length_places, record_words_lem, well_words}

-- what is said of a call that was answered, by its record and not by its words
pub record IsStep (o : Outcome) (x : Crossed) : Type 0 where
  pub said : x.said ≡ o.said
  pub store : store_of x.words x.cells ≡ o.store

-- the same of call records that were served
pub record IsServing (s : Serving) (x : Handed) : Type 0 where
  pub taken : x.taken ≡ s.taken
  pub written : x.written ≡ s.written
  pub why : x.why ≡ why_of s.stop
  pub store : store_of x.words x.cells ≡ s.store
  pub answers : x.answers ≡ s.answers

-- a run of calls leaves as many words and places as there were
pub run_lengths : (st : Store) (calls : List Call)
    → (length (run st calls).store.words ≡ length st.words) × (length (run st calls).store.board.places ≡ length st.board.places)
run_lengths st calls =
    run-keeps (λ (s : Store). (length s.words ≡ length st.words) × (length s.board.places ≡ length st.board.places))
    (λ s c e. ((keeps_lengths s c).0 ∙ e.0, (keeps_lengths s c).1 ∙ e.1)) st calls (refl, refl)

module _ (ws cs : List ℕ) (w : well_formed ws ≡ true) where
  places : length (record_of ws).places ≡ all_places
  unfolding record_of
  places = length_places ws

  sixteen : (call : Call) → length (step (store_of ws cs) call).store.board.places ≡ all_places
  sixteen call = (keeps_lengths (store_of ws cs) call).1 ∙ places

  on_words : (call : Call) → step_on_words ws cs call ≡ outcome_words (step (store_of ws cs) call)
  on_words call = ap (λ (t : Bool). cond t (outcome_words (step (store_of ws cs) call)) (refused_with (Err Refusal.Board) ws cs)) w

  pub call_is_step : (kind place key value : ℕ) (call : Call) → call_named kind place key value ≡ Some call
      → IsStep (step (store_of ws cs) call) (lane_call ws cs kind place key value)
  unfolding lane_call
  call_is_step kind place key value call n =
      let o = step (store_of ws cs) call in
      let e : lane_call ws cs kind place key value ≡ outcome_words o = ap (λ (c : Option Call). on_named c ws cs) n ∙ on_words call in
      rw e (record { said = refl; store = ap (λ (b : Board). lent b o.store.words) (record_words_lem o.store.board (sixteen call)) })

  -- as many words, and a record still
  abbrev Keeps : Crossed → Type 0
  Keeps x = (well_formed x.words ≡ true) × (length x.cells ≡ length cs)

  kept : (read : Option Call) → Keeps (on_named read ws cs)
  kept (Some call) =
      rw (on_words call) (well_words (step (store_of ws cs) call).store.board (sixteen call), (keeps_lengths (store_of ws cs) call).0)
  kept None = (w, refl)

  pub call_kept : (kind place key value : ℕ) → Keeps (lane_call ws cs kind place key value)
  unfolding lane_call
  call_kept kind place key value = kept (call_named kind place key value)

  module _ (calls answers : List ℕ) where
    served : lane_serve ws cs calls answers ≡ serving_words (serve_into (store_of ws cs) calls answers)
    unfolding lane_serve
    served =
        ap (λ (t : Bool). cond t (serving_words (serve_into (store_of ws cs) calls answers)) (nothing_served ws cs answers)) w

    serve_lengths : (length (serve_into (store_of ws cs) calls answers).store.words ≡ length cs)
        × (length (serve_into (store_of ws cs) calls answers).store.board.places ≡ all_places)
    unfolding serve_of serve_first
    serve_lengths =
        let ran = run_lengths (store_of ws cs) (calls_in (tried calls (length answers)) calls) in
        (ran.0, ran.1 ∙ places)

    pub serve_is_serving : IsServing (serve_into (store_of ws cs) calls answers) (lane_serve ws cs calls answers)
    serve_is_serving =
        let s = serve_into (store_of ws cs) calls answers in
        rw served
        (record {
          taken = refl;
          written = refl;
          why = refl;
          store = ap (λ (b : Board). lent b s.store.words) (record_words_lem s.store.board serve_lengths.1);
          answers = refl;
        })

    pub serve_kept : (well_formed (lane_serve ws cs calls answers).words ≡ true) × (length (lane_serve ws cs calls answers).cells ≡ length cs)
    serve_kept = rw served (well_words (serve_into (store_of ws cs) calls answers).store.board serve_lengths.1, serve_lengths.0)

-- the words of a record
module _ (st : Store) (full : length st.board.places ≡ all_places) where
  abbrev ws : List ℕ
  ws = words_of_record st.board

  store_back : store_of ws st.words ≡ st
  store_back = ap (λ (b : Board). lent b st.words) (record_words_lem st.board full)

  pub step_on : (call : Call) → step_on_words ws st.words call ≡ outcome_words (step st call)
  step_on call =
      on_words ws st.words (well_words st.board full) call ∙ ap (λ (x : Store). outcome_words (step x call)) store_back

  pub serve_on_lem : (calls answers : List ℕ) → lane_serve ws st.words calls answers ≡ serving_words (serve_into st calls answers)
  serve_on_lem calls answers =
      served ws st.words (well_words st.board full) calls answers
      ∙ ap (λ (x : Store). serving_words (serve_into x calls answers)) store_back
