-- A `lane_serve` does what `lane_call` does for one call tried after the other, on any words.
--     serve_is_calls     one lane_serve
--     mixed_is_calls     any mixture of both
-- Assumes nothing.
use Rattle.std.specs.Prelude.{Option, Some, None}
use mathlib.Core.Path.{◌≡◌, refl, sym, ap, ◌∙◌, subst}
use mathlib.Core.Bool.{Bool, true, false}
use mathlib.Core.List.{List, [], ◌∷◌, ◌++◌, map}
use Prim.Native.Nat.{ℕ}
use lib.ListN.{length}
use Rattle.records.specs.declared.Call.{Call}
use Rattle.records.specs.declared.Reply.{Reply}
use Rattle.steps.specs.Record.{all_places}
use Rattle.steps.specs.Store.{Store}
use Rattle.steps.specs.Step.{step}
use Rattle.steps.specs.Run.{Run, pair_of, run}
use Rattle.steps.proofs.Keeps.{keeps_lengths}
use Rattle.steps.proofs.Tests.{two}
use Rattle.lanes.specs.Serve.{reply_to, replies_of, records_of}
use Rattle.history.specs.Bytes.{met_no_call}
use Rattle.history.proofs.Basics.{cases, clash}
use Rattle.history.proofs.Bytes.{record_if}
use Rattle.lane_c.specs.Words.{record_of, words_of_record, well_formed}
use Rattle.lane_c.specs.Call.{Crossed, store_of, outcome_words, on_named, lane_call}
use Rattle.lane_c.specs.Serve.{Handed}
use Rattle.lane_c.proofs.Words.{length_places, words_record}
use Rattle.lane_c.proofs.Serves.{serve_board}
use Rattle.lane_c.proofs.Kept.{step_on, serve_on_lem}
use Rattle.hosts.specs.Calls.{Asked, call_on, Called, calls_on, call_asked, calls_asked}
use Rattle.hosts.specs.Serves.{Lent, serve_on, Held, calls_tried}
use Rattle.hosts.specs.Mixed.{ask_for, asks_for, reply_got, IsCalls, ServeIsCalls, by_call, by_serve, deeds_on, asks_of, MixedIsCalls}
use Rattle.hosts.proofs.Calls.{same}
use Rattle.hosts.proofs.Serves.{served_store, served_bytes}

-- the words after lane_calls
abbrev kept : Called → Held
kept r = record { words = r.words; cells = r.cells }

-- ON A RECORD

-- the call asked for is the call
asked_back : (c : Call) → call_asked (ask_for c) ≡ Some c
asked_back (Call.Start place) = refl
asked_back (Call.Read place key) = refl
asked_back (Call.Update place key value) = refl
asked_back (Call.Prepare place) = refl
asked_back (Call.Commit place) = refl
asked_back (Call.Rollback place) = refl

asks_back : (cs : List Call) → calls_asked (map ask_for cs) ≡ cs
unfolding calls_asked
asks_back [] = refl
asks_back (c ∷ cs) = rw (asked_back c) (ap (λ (l : List Call). c ∷ l) (asks_back cs))

-- asked for a call, lane_call does its step
call_step : (st : Store) → length st.board.places ≡ all_places → (c : Call)
    → call_on (words_of_record st.board) st.words (ask_for c) ≡ outcome_words (step st c)
unfolding lane_call
call_step st full c =
    ap (λ (r : Option Call). on_named r (words_of_record st.board) st.words) (asked_back c) ∙ step_on st full c

-- what the calls gave is what a run of them replies
got_replies : (calls : List Call) (st : Store) → length st.board.places ≡ all_places
    → map reply_got (calls_on (words_of_record st.board) st.words (map ask_for calls)).got ≡ replies_of (run st calls)
unfolding calls_on run
got_replies [] st full = refl
got_replies (c ∷ calls) st full =
    ap (λ (x : Crossed). reply_got (record { asked = ask_for c; said = x.said })
    ∷ map reply_got (calls_on x.words x.cells (map ask_for calls)).got) (call_step st full c)
    ∙ ap (λ (rs : List Reply). reply_to (pair_of st c) ∷ rs) (got_replies calls (step st c).store ((keeps_lengths st c).1 ∙ full))

module _ (st : Store) (full : length st.board.places ≡ all_places) (l : Lent) where
  abbrev ws : List ℕ
  ws = words_of_record st.board

  abbrev met : Bool
  met = met_no_call l.calls (length l.answers)

  on_record : IsCalls ws l (serve_on ws st.words l) (calls_on ws st.words (asks_for l))
  on_record =
      let s = same (asks_for l) st full in
      let back : run st (calls_asked (asks_for l)) ≡ run st (calls_tried l) = ap (run st) (asks_back (calls_tried l)) in
      subst (λ (x : Handed). IsCalls ws l x (calls_on ws st.words (asks_for l))) (sym (serve_on_lem st full l.calls l.answers))
      (record {
        words = ap (λ (x : Store). words_of_record x.board) (served_store st l)
            ∙ sym (s.words ∙ ap (λ (p : Run). words_of_record p.store.board) back);
        cells = ap (λ (x : Store). x.words) (served_store st l) ∙ sym (s.cells ∙ ap (λ (p : Run). p.store.words) back);
        answers = λ _. served_bytes st l
            ∙ ap (λ (rs : List Reply). records_of rs ++ record_if met) (sym (got_replies (calls_tried l) st full));
      })

-- ON WORDS THAT ARE NO RECORD
module _ (ws cs : List ℕ) (w : well_formed ws ≡ false) where
  -- a call leaves them
  left : (read : Option Call) → ((on_named read ws cs).words ≡ ws) × ((on_named read ws cs).cells ≡ cs)
  left (Some call) = rw w (refl, refl)
  left None = (refl, refl)

  all_left : (asked : List Asked) → kept (calls_on ws cs asked) ≡ record { words = ws; cells = cs }
  unfolding calls_on lane_call
  all_left [] = refl
  all_left (a ∷ more) =
      (λ i. kept (calls_on ((left (call_asked a)).0 i) ((left (call_asked a)).1 i) more)) ∙ all_left more

  on_none : (l : Lent) → IsCalls ws l (serve_on ws cs l) (calls_on ws cs (asks_for l))
  on_none l =
      let k = all_left (asks_for l) in
      subst (λ (x : Handed). IsCalls ws l x (calls_on ws cs (asks_for l))) (serve_board ws cs l.calls l.answers w)
      (record {
        words = sym (ap (λ (h : Held). h.words) k);
        cells = sym (ap (λ (h : Held). h.cells) k);
        answers = λ e. clash e w;
      })

-- ON ANY WORDS

sixteen : (ws : List ℕ) → well_formed ws ≡ true → length (record_of ws).places ≡ all_places
unfolding record_of
sixteen ws w = length_places ws

pub serve_is_calls : ServeIsCalls
serve_is_calls ws cs l = cases (two (well_formed ws))
    (λ w. subst (λ (v : List ℕ). IsCalls v l (serve_on v cs l) (calls_on v cs (asks_for l))) (words_record ws w)
    (on_record (store_of ws cs) (sixteen ws w) l))
    (λ w. on_none ws cs w l)

calls_append : (a b : List Asked) (ws cs : List ℕ)
    → kept (calls_on ws cs (a ++ b)) ≡ kept (calls_on (calls_on ws cs a).words (calls_on ws cs a).cells b)
unfolding calls_on
calls_append [] b ws cs = refl
calls_append (x ∷ a) b ws cs = calls_append a b _ _

pub mixed_is_calls : MixedIsCalls
unfolding deeds_on asks_of calls_on
mixed_is_calls ws cs [] = refl
mixed_is_calls ws cs (by_call a ∷ more) = mixed_is_calls (call_on ws cs a).words (call_on ws cs a).cells more
mixed_is_calls ws cs (by_serve l ∷ more) =
    let s = serve_is_calls ws cs l in
    (λ i. deeds_on (s.words i) (s.cells i) more)
    ∙ mixed_is_calls (calls_on ws cs (asks_for l)).words (calls_on ws cs (asks_for l)).cells more
    ∙ sym (calls_append (asks_for l) (asks_of more) ws cs)
