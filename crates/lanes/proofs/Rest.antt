-- What is left to serve once some records are answered: how far the loop of `serve` has come.
--     rest_whole   before the first record it is all
--     turn_good    a record that is a call moves on
--     turn_bad     bytes that are no call end it
--     rest_none    past the last record nothing is left
-- Assumes nothing.
use mathlib.Core.Path.{◌≡◌, sym, ap, ◌∙◌}
use mathlib.Core.Bool.{Bool, true, cond}
use Rattle.std.specs.Prelude.{Some, None, Option}
use mathlib.Core.List.{List, [], ◌∷◌, ◌++◌, append_assoc}
use Prim.Native.Nat.{ℕ, suc, ◌+◌, ◌*◌, ◌-◌, ◌≤◌, ◌<◌}
use native.Mathlib.Nat.{zero-add, add-zero}
use native.Mathlib.Omega.{arith}
use lib.Dec.{ltb, leb, leb-suc-suc, leb-zero}
use lib.ListN.{length, take, drop, length-append, take-append-drop}
use lib.Seq.{drop-drop}
use Rattle.records.specs.declared.Call.{Call}
use Rattle.records.specs.Format.{call_bytes, answer_bytes, answer_record, call_at, put_at}
use Rattle.steps.specs.declared.Answered.{Answered}
use Rattle.steps.specs.Store.{Store, Outcome, lent}
use Rattle.steps.specs.Step.{outcome, step}
use Rattle.steps.specs.Run.{Run, pair_of, run}
use Rattle.lanes.specs.declared.Stop.{Stop}
use Rattle.lanes.specs.Serve.{read_then, calls_in, reply_to, no_call, replies_of, records_of, whole_calls, tried}
use Rattle.lanes.specs.Serve.{refused, Serving, serve_first, serve_of, serve_into}
use Rattle.records.proofs.Bytes.{put_next}
use Rattle.records.proofs.Fields.{answer_length}

-- calls that are left, of so many records, with i records answered before them; last is why serving stops if they are all calls
abbrev rest_with : List Call → ℕ → ℕ → Stop → Store → List ℕ → Serving
rest_with calls left i last st answers =
    let ran : Run = run st calls in
    let out : List ℕ = records_of (replies_of ran) ++ refused (length calls) left in
    record {
      store = ran.store;
      answers = put_at answers (answer_bytes * i) out;
      taken = call_bytes * i + call_bytes * length calls;
      written = answer_bytes * i + length out;
      stop = cond (ltb (length calls) left) Stop.Record last;
    }

abbrev pub rest : ℕ → ℕ → Stop → Store → List ℕ → List ℕ → Serving
rest left i last st bytes answers = rest_with (calls_in left (drop (call_bytes * i) bytes)) left i last st answers

-- what stopping at bytes that are no call comes to, with i records answered before them
abbrev pub stopped : ℕ → Store → List ℕ → Serving
stopped i st answers =
    record { store = st; answers = answers; taken = call_bytes * i; written = answer_bytes * i + answer_bytes; stop = Stop.Record }

abbrev pub last_stop : List ℕ → ℕ → Stop
last_stop bytes records = cond (leb (whole_calls bytes) records) Stop.End Stop.Room

module _ (st : Store) (bytes answers : List ℕ) where
  pub rest_whole : serve_into st bytes answers
      ≡ rest (tried bytes (length answers)) 0 (last_stop bytes (tried bytes (length answers))) st bytes answers
  unfolding serve_of serve_first
  rest_whole =
      let n : ℕ = tried bytes (length answers) in
      let calls : List Call = calls_in n bytes in
      let ran : Run = run st calls in
      let out : List ℕ = records_of (replies_of ran) ++ refused (length calls) n in
      λ i. record {
        store = ran.store;
        answers = put_at answers 0 out;
        taken = sym (zero-add (call_bytes * length calls)) i;
        written = sym (zero-add (length out)) i;
        stop = cond (ltb (length calls) n) Stop.Record (last_stop bytes n);
      }

-- the call at the front of what is left
module _ (bytes : List ℕ) (i k : ℕ) where
  next_good : (call : Call) → call_at bytes (call_bytes * i) ≡ Some call
      → calls_in (suc k) (drop (call_bytes * i) bytes) ≡ call ∷ calls_in k (drop (call_bytes * (i + 1)) bytes)
  unfolding calls_in call_at
  next_good call e =
      let far : call_bytes * i + call_bytes ≡ call_bytes * (i + 1) = omega arith in
      let behind : drop call_bytes (drop (call_bytes * i) bytes) ≡ drop (call_bytes * (i + 1)) bytes =
      drop-drop call_bytes (call_bytes * i) bytes ∙ ap (λ (n : ℕ). drop n bytes) far in
      λ j. read_then (e j) (calls_in k (behind j))

  next_bad : call_at bytes (call_bytes * i) ≡ None → calls_in (suc k) (drop (call_bytes * i) bytes) ≡ []
  unfolding calls_in call_at
  next_bad e = ap (λ (r : Option Call). read_then r (calls_in k (drop call_bytes (drop (call_bytes * i) bytes)))) e

module _ (i k : ℕ) (last : Stop) (st : Store) (answers : List ℕ) where
  with_good : (call : Call) (calls : List Call) → answer_bytes * i + answer_bytes ≤ length answers
      → rest_with (call ∷ calls) (suc k) i last st answers
      ≡ rest_with calls k (i + 1) last (step st call).store
      (put_at answers (answer_bytes * i) (answer_record (reply_to (pair_of st call))))
  unfolding run records_of
  with_good call calls room =
      let o : Outcome = step st call in
      let rec : List ℕ = answer_record (reply_to (pair_of st call)) in
      let ran : Run = run o.store calls in
      let less : ltb (suc (length calls)) (suc k) ≡ ltb (length calls) k = leb-suc-suc (suc (length calls)) k in
      let out : List ℕ = records_of (replies_of ran) ++ refused (length calls) k in
      let outs : rec ++ records_of (replies_of ran) ++ refused (suc (length calls)) (suc k) ≡ rec ++ out =
      ap (λ (t : Bool). rec ++ records_of (replies_of ran) ++ cond t (answer_record no_call) []) less
      ∙ append_assoc rec (records_of (replies_of ran)) (refused (length calls) k) in
      let long : length rec ≡ answer_bytes = answer_length (reply_to (pair_of st call)) in
      let far : answer_bytes * i + length rec ≡ answer_bytes * (i + 1) = omega arith in
      let puts : put_at answers (answer_bytes * i) (rec ++ records_of (replies_of ran) ++ refused (suc (length calls)) (suc k))
      ≡ put_at (put_at answers (answer_bytes * i) rec) (answer_bytes * (i + 1)) out =
      ap (put_at answers (answer_bytes * i)) outs
      ∙ sym (put_next answers (answer_bytes * i) rec (omega arith) out)
      ∙ ap (λ (n : ℕ). put_at (put_at answers (answer_bytes * i) rec) n out) far in
      let takes : call_bytes * i + call_bytes * suc (length calls) ≡ call_bytes * (i + 1) + call_bytes * length calls = omega arith in
      let writes : answer_bytes * i + length (rec ++ records_of (replies_of ran) ++ refused (suc (length calls)) (suc k))
      ≡ answer_bytes * (i + 1) + length out =
      ap (λ (l : List ℕ). answer_bytes * i + length l) outs ∙ rw length-append (omega arith) in
      λ j. record {
        store = ran.store;
        answers = puts j;
        taken = takes j;
        written = writes j;
        stop = cond (less j) Stop.Record last;
      }

  with_bad : rest_with [] (suc k) i last st answers ≡ stopped i st (put_at answers (answer_bytes * i) (answer_record no_call))
  unfolding run records_of
  with_bad =
      let first : ltb 0 (suc k) ≡ true = leb-suc-suc 0 k ∙ leb-zero k in
      let outs : refused 0 (suc k) ≡ answer_record no_call = ap (λ (t : Bool). cond t (answer_record no_call) []) first in
      let writes : answer_bytes * i + length (refused 0 (suc k)) ≡ answer_bytes * i + answer_bytes =
      ap (λ (l : List ℕ). answer_bytes * i + length l) outs ∙ rw answer_length (omega arith) in
      λ j. record {
        store = st;
        answers = put_at answers (answer_bytes * i) (outs j);
        taken = add-zero (call_bytes * i) j;
        written = writes j;
        stop = cond (first j) Stop.Record last;
      }

  with_none : rest_with [] 0 i last st answers
      ≡ record {
        store = st;
        answers = answers;
        taken = call_bytes * i;
        written = answer_bytes * i;
        stop = last;
      }
  unfolding run records_of put_at
  with_none =
      let at : ℕ = answer_bytes * i in
      let same : take at answers ++ drop (at + 0) answers ≡ answers =
      ap (λ (n : ℕ). take at answers ++ drop n answers) (add-zero at) ∙ take-append-drop at answers in
      λ j. record {
        store = st;
        answers = same j;
        taken = add-zero (call_bytes * i) j;
        written = add-zero at j;
        stop = last;
      }

-- one turn of the loop, of n records in all: what stands at the front of what is left decides
module _ (n i : ℕ) (h : i < n) (last : Stop) (st : Store) (bytes answers answers' : List ℕ) where
  one_less : n - i ≡ suc (n - (i + 1))
  one_less = omega arith

  pub turn_good : (call : Call) (r : Answered) (ws' : List ℕ) → call_at bytes (call_bytes * i) ≡ Some call
      → answer_bytes * i + answer_bytes ≤ length answers → outcome r ws' ≡ step st call
      → answers' ≡ put_at answers (answer_bytes * i) (answer_record (reply_to (pair_of st call)))
      → rest (n - i) i last st bytes answers ≡ rest (n - (i + 1)) (i + 1) last (lent r.board ws') bytes answers'
  turn_good call r ws' e room o put =
      let k : ℕ = n - (i + 1) in
      ap (λ (left : ℕ). rest left i last st bytes answers) one_less
      ∙ ap (λ (l : List Call). rest_with l (suc k) i last st answers) (next_good bytes i k call e)
      ∙ with_good i k last st answers call (calls_in k (drop (call_bytes * (i + 1)) bytes)) room
      ∙ sym (λ j. rest k (i + 1) last (o j).store bytes (put j))

  pub turn_bad : call_at bytes (call_bytes * i) ≡ None → answers' ≡ put_at answers (answer_bytes * i) (answer_record no_call)
      → rest (n - i) i last st bytes answers ≡ stopped i st answers'
  turn_bad e put =
      let k : ℕ = n - (i + 1) in
      ap (λ (left : ℕ). rest left i last st bytes answers) one_less
      ∙ ap (λ (l : List Call). rest_with l (suc k) i last st answers) (next_bad bytes i k e)
      ∙ with_bad i k last st answers
      ∙ sym (ap (stopped i st) put)

pub rest_none : (i : ℕ) (last : Stop) (st : Store) (bytes answers : List ℕ)
    → rest 0 i last st bytes answers
    ≡ record { store = st; answers = answers; taken = call_bytes * i; written = answer_bytes * i; stop = last }
unfolding calls_in
rest_none i last st bytes answers = with_none i 0 last st answers
