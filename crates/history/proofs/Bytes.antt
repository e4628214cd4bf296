-- What the desk and `serve` write are the answers of a history, and no other bytes are.
--     desk_tells, serve_tells       the two promises of specs/Bytes
--     desk_only                     one output tells the history of an input
--     desk_speaks, serve_speaks     silence is none, where there is something to say
-- Assumes nothing.
use Rattle.std.specs.Prelude.{Option, Some, None, Err}
use mathlib.Core.Path.{◌≡◌, refl, sym, ap, ◌∙◌, subst}
use mathlib.Core.Bool.{Bool, true, false, cond, not, ◌&&◌}
use mathlib.Core.List.{List, [], ◌∷◌, ◌++◌, map, append_assoc}
use Prim.Native.Nat.{ℕ, zero, suc, ◌+◌, ◌*◌, ◌^◌, ◌≤◌, ◌<◌}
use native.Mathlib.Nat.{le_of_suc-le-suc, not-suc-le-zero}
use native.Mathlib.Omega.{arith}
use lib.Dec.{eqb}
use lib.ListN.{length, get_or, take, drop, length-append, length-map, get_or-map, take-append-drop}
use lib.Seq.{take_at, drop_at, drop-drop, drop-append-add, split_at, get_or-take, length-take-le}
use borrow.Author.Tests.{ltb-true, ltb-false, lt-ltb, eqb-true, not-false}
use Rattle.records.specs.declared.Call.{Call}
use Rattle.records.specs.declared.Refusal.{Refusal}
use Rattle.records.specs.declared.Reply.{Reply}
use Rattle.records.specs.Answers.{Answer, value_of, place_of}
use Rattle.records.specs.Format.{call_bytes, answer_bytes, goes_in, key_of, new_value_of, call_fits, reply_fits, answer_of, answer_record}
use Rattle.records.specs.Format.{call_in, call_at, answer_in, answer_at, put_at}
use Rattle.records.proofs.RoundTrip.{calls, answers}
use Rattle.cells.specs.Cells.{words_of}
use Rattle.steps.specs.Record.{most_cells, fresh_words}
use Rattle.steps.specs.Store.{Store, Said, fresh_store}
use Rattle.steps.specs.Run.{Pair, run}
use Rattle.steps.proofs.Run.{run_length, run_call}
use Rattle.steps.proofs.Tests.{and_both as both, and_left, and_right}
use Rattle.lanes.specs.Serve.{no_call, read_then, calls_in, reply_to, replies_of, records_of, whole_calls, tried, serve_first, serve_of}
use Rattle.lanes.specs.Desk.{answers_to, desk_store, desk_of}
use Rattle.lanes.proofs.Replies.{answer_back}
use Rattle.history.specs.History.{no_pair, ledger, from_fresh}
use Rattle.history.specs.Verdict.{Answers, verdict}
use Rattle.history.specs.Bytes.{AnswerIs, Tells, input_calls, bytes_left, DeskPromise, DeskOnly, DeskSpeaks}
use Rattle.history.specs.Bytes.{tried_calls, met_no_call, ServePromise, ServeSpeaks}
use Rattle.history.proofs.Basics.{cases, lt?}
use Rattle.history.proofs.Demand.{at, demand3}
use Rattle.history.proofs.Judge.{all_right}
use Rattle.history.proofs.Small.{small_ledger, step_small}

-- THE CALLS IN BYTES

-- what stands where there is no call
abbrev pub no_start : Call
no_start = no_pair.call

call_next : (bs : List ℕ) (i : ℕ) → call_at bs (call_bytes * suc i) ≡ call_at (drop call_bytes bs) (call_bytes * i)
unfolding call_at
call_next bs i =
    let far : call_bytes + call_bytes * i ≡ call_bytes * suc i = omega arith in
    sym (ap (λ (l : List ℕ). call_in (take call_bytes l)) (drop-drop (call_bytes * i) call_bytes bs ∙ ap (λ (n : ℕ). drop n bs) far))

-- record i is call i
abbrev pub Stands : List ℕ → List Call → Type 0
Stands bs cs = (i : ℕ) → i < length cs → call_at bs (call_bytes * i) ≡ Some (get_or cs i no_start)

one_call : (bs : List ℕ) (cs : List Call) (r : Option Call) → call_at bs 0 ≡ r → Stands (drop call_bytes bs) cs → Stands bs (read_then r cs)
one_call bs cs (Some c) e f zero h = e
one_call bs cs (Some c) e f (suc i) h = call_next bs i ∙ f i (le_of_suc-le-suc h)
one_call bs cs None e f i h = absurd (not-suc-le-zero h)

pub calls_stand : (m : ℕ) (bs : List ℕ) → Stands bs (calls_in m bs)
unfolding calls_in
calls_stand zero bs = λ i h. absurd (not-suc-le-zero h)
calls_stand (suc m) bs = one_call bs (calls_in m (drop call_bytes bs)) (call_at bs 0) refl (calls_stand m (drop call_bytes bs))

-- where there are fewer calls than so many records, no call stands behind the last
abbrev Ends : ℕ → List ℕ → List Call → Type 0
Ends m bs cs = (length cs ≤ m) × (length cs < m → call_at bs (call_bytes * length cs) ≡ None)

one_end : (m : ℕ) (bs : List ℕ) (cs : List Call) (r : Option Call) → call_at bs 0 ≡ r → Ends m (drop call_bytes bs) cs
    → Ends (suc m) bs (read_then r cs)
one_end m bs cs (Some c) e f = (omega (arith, f.0), λ h. call_next bs (length cs) ∙ f.1 (le_of_suc-le-suc h))
one_end m bs cs None e f = (omega arith, λ h. e)

pub calls_end : (m : ℕ) (bs : List ℕ) → Ends m bs (calls_in m bs)
unfolding calls_in
calls_end zero bs = (omega arith, λ h. absurd (not-suc-le-zero h))
calls_end (suc m) bs = one_end m bs (calls_in m (drop call_bytes bs)) (call_at bs 0) refl (calls_end m (drop call_bytes bs))

-- a call that was read has a record
read_fits : (bs : List ℕ) (at : ℕ) (c : Call) → call_at bs at ≡ Some c → call_fits c ≡ true
read_fits bs at c e = ((calls.reads bs at c).0 e).0

pub stands_fit : (bs : List ℕ) (cs : List Call) → Stands bs cs → (i : ℕ) → i < length cs → call_fits (get_or cs i no_start) ≡ true
stands_fit bs cs s i h = read_fits bs (call_bytes * i) (get_or cs i no_start) (s i h)

-- THE ANSWERS IN BYTES

past_record : (a bs : List ℕ) (i : ℕ) → length a ≡ answer_bytes → drop (answer_bytes * suc i) (a ++ bs) ≡ drop (answer_bytes * i) bs
past_record a bs i e =
    let far : answer_bytes * suc i ≡ length a + answer_bytes * i = omega arith in
    ap (λ (n : ℕ). drop n (a ++ bs)) far ∙ drop-append-add a bs (answer_bytes * i)

record_at : (rs : List Reply) (more : List ℕ) (i : ℕ) (d : Reply) → i < length rs
    → take answer_bytes (drop (answer_bytes * i) (records_of rs ++ more)) ≡ answer_record (get_or rs i d)
unfolding records_of
record_at [] more i d h = absurd (not-suc-le-zero h)
record_at (r ∷ rs) more zero d h =
    ap (λ (l : List ℕ). take answer_bytes l) (append_assoc (answer_record r) (records_of rs) more)
    ∙ take_at (answer_record r) (records_of rs ++ more) answer_bytes (answers.long r)
record_at (r ∷ rs) more (suc i) d h =
    ap (λ (l : List ℕ). take answer_bytes (drop (answer_bytes * suc i) l)) (append_assoc (answer_record r) (records_of rs) more)
    ∙ ap (λ (l : List ℕ). take answer_bytes l) (past_record (answer_record r) (records_of rs ++ more) i (answers.long r))
    ∙ record_at rs more i d (le_of_suc-le-suc h)

records_length : (rs : List Reply) → length (records_of rs) ≡ answer_bytes * length rs
unfolding records_of
records_length [] = refl
records_length (r ∷ rs) =
    let e = length-append (answer_record r) (records_of rs) in
    let l : length (answer_record r) ≡ answer_bytes = answers.long r in
    omega (arith, e, l, records_length rs)

-- RECORD with place 0 and value 0, where a test says so
abbrev pub record_if : Bool → List ℕ
record_if t = cond t (answer_record no_call) []

-- WHAT BYTES TELL

-- the pair's answer is one of document 01's table, and has a record with the call's place byte
pub record Recorded (h : Pair) : Type 0 where
  pub answer : Answer
  pub same : Answers h answer
  pub fits : reply_fits (record { place = place_of h.call; answer = answer }) ≡ true

same_reply : (h : Pair) (a : Answer) → Answers h a → reply_to h ≡ record { place = place_of h.call; answer = a }
same_reply h a e =
    let named : answer_of h.said.number h.said.value ≡ a = ap (λ (s : Said). answer_of s.number s.value) e ∙ answer_back a in
    ap (λ (x : Answer). record { place = place_of h.call; answer = x }) named

-- a history whose answers have records, and the bytes of those
module _ (hs : List Pair) (input output : List ℕ) (left : Bool)
    (read : (i : ℕ) → i < length hs → call_at input (call_bytes * i) ≡ Some (get_or hs i no_pair).call)
    (has : (i : ℕ) → i < length hs → Recorded (get_or hs i no_pair))
    (out : output ≡ records_of (map reply_to hs) ++ record_if left) where
  answered : (i : ℕ) → i < length hs → AnswerIs (get_or hs i no_pair) output i
  answered i g =
      let h : Pair = get_or hs i no_pair in
      let r : Recorded h = has i g in
      let reply : Reply = record { place = place_of h.call; answer = r.answer } in
      let there : take answer_bytes (drop (answer_bytes * i) output) ≡ answer_record (reply_to h) =
      ap (λ (l : List ℕ). take answer_bytes (drop (answer_bytes * i) l)) out
      ∙ record_at (map reply_to hs) (record_if left) i (reply_to no_pair) (omega (arith, length-map hs reply_to))
      ∙ ap answer_record (get_or-map reply_to hs i no_pair) in
      let stands : answer_at output (answer_bytes * i) ≡ Some reply =
      (answers.reads output (answer_bytes * i) reply).1 (r.fits, there ∙ ap answer_record (same_reply h r.answer r.same)) in
      record { answer = r.answer; same = r.same; stands = stands }

  behind : drop (answer_bytes * length hs) output ≡ record_if left
  behind =
      let len : length (records_of (map reply_to hs)) ≡ answer_bytes * length hs =
      records_length (map reply_to hs) ∙ ap (λ (k : ℕ). answer_bytes * k) (length-map hs reply_to) in
      ap (λ (l : List ℕ). drop (answer_bytes * length hs) l) out
      ∙ drop_at (records_of (map reply_to hs)) (record_if left) (answer_bytes * length hs) len

  pub told : Tells hs input output left
  told = record { called = read; answered = answered; behind = behind }

-- every answer of a history from a fresh board has a record, where every call has
module _ (n : ℕ) (h : 0 < n) (m : n ≤ most_cells) (cs : List Call)
    (fit : (i : ℕ) → i < length cs → call_fits (get_or cs i no_start) ≡ true) where
  abbrev pairs : List Pair
  pairs = (from_fresh n cs).pairs

  abbrev pair_at : ℕ → Pair
  pair_at i = get_or pairs i no_pair

  abbrev B : ℕ
  B = 256 ^ 4

  as_many : length pairs ≡ length cs
  as_many = run_length (fresh_store n) cs

  pub fresh_call : (i : ℕ) → (pair_at i).call ≡ get_or cs i no_start
  fresh_call i = run_call (fresh_store n) cs i no_pair

  has_record : (i : ℕ) → i < length cs → call_fits (pair_at i).call ≡ true
  has_record i g = ap call_fits (fresh_call i) ∙ fit i g

  place_goes : (i : ℕ) → i < length cs → goes_in 1 (place_of (pair_at i).call) ≡ true
  place_goes i g =
      let c = (pair_at i).call in
      and_left (goes_in 1 (place_of c)) (goes_in 2 (key_of c) && goes_in 4 (new_value_of c)) (has_record i g)

  value_goes : (i : ℕ) → i < length cs → new_value_of (pair_at i).call < B
  value_goes i g =
      let c = (pair_at i).call in
      let e = and_right (goes_in 1 (place_of c)) (goes_in 2 (key_of c) && goes_in 4 (new_value_of c)) (has_record i g) in
      ltb-true (new_value_of c) B (and_right (goes_in 2 (key_of c)) (goes_in 4 (new_value_of c)) e)

  split : (i : ℕ) → i < length cs → pairs ≡ take i pairs ++ (pair_at i ∷ drop (suc i) pairs)
  split i g = split_at pairs i no_pair (omega (arith, as_many))

  -- every value answered goes into four bytes
  answer_goes : (i : ℕ) → i < length cs → (pair_at i).said.value < B
  answer_goes i g =
      let s = at n h m cs (take i pairs) (drop (suc i) pairs) (pair_at i) (split i g) in
      let len : length (take i pairs) ≡ i = length-take-le i pairs (omega (arith, as_many)) in
      let small = small_ledger B (omega arith) (take i pairs)
      (λ j l. rw (get_or-take i pairs j no_pair (omega arith)) (value_goes j (omega arith))) in
      rw s.said (step_small B (omega arith) (omega arith) s.store (ledger (take i pairs)) s.shape s.linked small (pair_at i).call)

  -- every answer is one of document 01's table
  answer_of_lem : (i : ℕ) → i < length cs → (a : Answer) × Answers (pair_at i) a
  answer_of_lem i g = cases (all_right n h m cs (take i pairs) (drop (suc i) pairs) (pair_at i) (split i g))
      (λ r. (verdict (ledger (take i pairs)) (pair_at i).call, r))
      (λ r. (Err Refusal.Full, r.0))

  pub recorded : (i : ℕ) → i < length pairs → Recorded (pair_at i)
  recorded i l =
      let g : i < length cs = omega (arith, as_many) in
      let a = answer_of_lem i g in
      let value : value_of a.0 < B = subst (λ (s : Said). s.value < B) a.1 (answer_goes i g) in
      record { answer = a.0; same = a.1; fits = both (place_goes i g) (lt-ltb (value_of a.0) B value) }

-- the bytes of a history of calls that stand in bytes tell it
pub bytes_tell : (n : ℕ) → 0 < n → n ≤ most_cells → (cs : List Call) (input output : List ℕ) (left : Bool) → Stands input cs
    → output ≡ records_of (replies_of (from_fresh n cs)) ++ record_if left → Tells (from_fresh n cs).pairs input output left
bytes_tell n h m cs input output left s out =
    let fit = stands_fit input cs s in
    let many : length (from_fresh n cs).pairs ≡ length cs = run_length (fresh_store n) cs in
    told (from_fresh n cs).pairs input output left
    (λ i g. s i (omega arith) ∙ ap Some (sym (fresh_call n h m cs fit i)))
    (recorded n h m cs fit)
    out

-- NO OTHER BYTES

-- an output without its first record
next_answer : (output : List ℕ) (i : ℕ) → answer_at output (answer_bytes * suc i) ≡ answer_at (drop answer_bytes output) (answer_bytes * i)
unfolding answer_at
next_answer output i =
    let far : answer_bytes + answer_bytes * i ≡ answer_bytes * suc i = omega arith in
    sym (ap (λ (l : List ℕ). answer_in (take answer_bytes l))
    (drop-drop (answer_bytes * i) answer_bytes output ∙ ap (λ (n : ℕ). drop n output) far))

-- the answers and what stands behind them fix every byte
all_bytes : (hs : List Pair) (output : List ℕ) (left : Bool) → ((i : ℕ) → i < length hs → AnswerIs (get_or hs i no_pair) output i)
    → drop (answer_bytes * length hs) output ≡ record_if left → output ≡ records_of (map reply_to hs) ++ record_if left
unfolding records_of
all_bytes [] output left a b = b
all_bytes (h ∷ hs) output left a b =
    let x = a 0 (omega arith) in
    let front : take answer_bytes output ≡ answer_record (reply_to h) =
    ((answers.reads output 0 (record { place = place_of h.call; answer = x.answer })).0 x.stands).1
    ∙ ap answer_record (sym (same_reply h x.answer x.same)) in
    let far : answer_bytes + answer_bytes * length hs ≡ answer_bytes * suc (length hs) = omega arith in
    let rest : drop answer_bytes output ≡ records_of (map reply_to hs) ++ record_if left =
    all_bytes hs (drop answer_bytes output) left
    (λ i g.
    let y = a (suc i) (omega arith) in
    record { answer = y.answer; same = y.same; stands = sym (next_answer output i) ∙ y.stands })
    (drop-drop (answer_bytes * length hs) answer_bytes output ∙ ap (λ (n : ℕ). drop n output) far ∙ b) in
    sym (take-append-drop answer_bytes output)
    ∙ (λ j. front j ++ rest j)
    ∙ sym (append_assoc (answer_record (reply_to h)) (records_of (map reply_to hs)) (record_if left))

pub tells_one : (hs : List Pair) (input output other : List ℕ) (left : Bool) → Tells hs input output left → Tells hs input other left
    → output ≡ other
tells_one hs input output other left t u =
    all_bytes hs output left t.answered t.behind ∙ sym (all_bytes hs other left u.answered u.behind)

-- no byte at all tells of no call, and of no bytes that are none
silent_record : {A : Type 0} → [] ≡ answer_record no_call → A
silent_record e = absurd (let l : length (answer_record no_call) ≡ answer_bytes = answers.long no_call in omega (arith, ap length e))

silent_answer : {A : Type 0} (r : Reply) → answer_at [] 0 ≡ Some r → A
silent_answer r e =
    let s : answer_at [] 0 ≡ None = answers.short [] 0 (omega arith) in
    absurd (let z : ◌≡◌ {A = ℕ} 0 1 = cc in omega arith)

silent_pairs : (hs : List Pair) (input : List ℕ) (left : Bool) → Tells hs input [] left → (length hs ≡ 0) × (left ≡ false)
silent_pairs [] input true t = silent_record t.behind
silent_pairs [] input false t = (refl, refl)
silent_pairs (h ∷ hs) input left t =
    let a = t.answered 0 (omega arith) in
    silent_answer (record { place = place_of h.call; answer = a.answer }) a.stands

-- THE DESK

-- a fresh board's words are those of empty cells
pub every_word : (n words : ℕ) → words ≡ 4 * n → fresh_words words ≡ (fresh_store n).words
unfolding words_of
every_word zero words e = rw e
every_word (suc n) words e =
    let far : words ≡ suc (suc (suc (suc (4 * n)))) = omega arith in
    rw far (ap (λ (l : List ℕ). 0 ∷ (0 ∷ (0 ∷ (0 ∷ l)))) (every_word n (4 * n) refl))

-- RECORD unless a test says otherwise
record_unless : (t : Bool) → cond t [] (answer_record no_call) ≡ record_if (not t)
record_unless true = refl
record_unless false = refl

-- no call stands behind the last, be it for bytes that are none or for the end
last_call : (input : List ℕ) → call_at input (call_bytes * length (input_calls input)) ≡ None
last_call input =
    let e = calls_end (whole_calls input) input in
    let l : ℕ = length (input_calls input) in
    cases (lt? l (whole_calls input)) e.1 (λ g. calls.short input (call_bytes * l) (omega (arith, e.0)))

desk_bytes : (st : Store) (input : List ℕ) → answers_to st input
    ≡ records_of (replies_of (run st (input_calls input))) ++ record_if (bytes_left input)
unfolding answers_to
desk_bytes st input =
    ap (λ (l : List ℕ). records_of (replies_of (run st (input_calls input))) ++ l)
    (record_unless (eqb (call_bytes * length (input_calls input)) (length input)))

pub desk_tells : DeskPromise
unfolding desk_of
desk_tells input =
    let cs : List Call = input_calls input in
    record {
      tells = bytes_tell most_cells (omega arith) (omega arith) cs input (answers_to desk_store input) (bytes_left input)
          (calls_stand (whole_calls input) input) (desk_bytes desk_store input);
      last = last_call input;
      demand3 = demand3 most_cells (omega arith) (omega arith) cs;
    }

pub desk_only : DeskOnly
desk_only input output t =
    tells_one (from_fresh most_cells (input_calls input)).pairs input output (desk_of input) (bytes_left input) t.tells (desk_tells input).tells

pub desk_speaks : DeskSpeaks
desk_speaks n input h t =
    let cs : List Call = input_calls input in
    let s = silent_pairs (from_fresh n cs).pairs input (bytes_left input) t.tells in
    let e : call_bytes * length cs ≡ length input = eqb-true _ _ (not-false _ s.1) in
    omega (arith, s.0, run_length (fresh_store n) cs)

-- SERVING

pub front : (bs rec : List ℕ) → take (length rec) (put_at bs 0 rec) ≡ rec
unfolding put_at
front bs rec = take_at rec (drop (0 + length rec) bs) (length rec) refl

pub serve_tells : ServePromise
unfolding serve_of serve_first
serve_tells n h m input lent =
    let records : ℕ = tried input (length lent) in
    let cs : List Call = tried_calls input (length lent) in
    let bytes : List ℕ = records_of (replies_of (from_fresh n cs)) ++ record_if (met_no_call input (length lent)) in
    record {
      tells = bytes_tell n h m cs input (take (length bytes) (put_at lent 0 bytes)) (met_no_call input (length lent)) (calls_stand records input)
          (front lent bytes);
      last = λ t. (calls_end records input).1 (ltb-true (length cs) records t);
      taken = refl;
      store = refl;
      demand3 = demand3 n h m cs;
    }

pub serve_speaks : ServeSpeaks
serve_speaks n input lent served h g e t =
    let cs : List Call = tried_calls input (length lent) in
    let met : Bool = met_no_call input (length lent) in
    let u : Tells (from_fresh n cs).pairs input [] met =
    subst (λ (k : ℕ). Tells (from_fresh n cs).pairs input (take k served.answers) met) e t.tells in
    let s = silent_pairs (from_fresh n cs).pairs input met u in
    omega (arith, s.0, run_length (fresh_store n) cs, ltb-false (length cs) (tried input (length lent)) s.1)
