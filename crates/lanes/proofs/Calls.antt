-- Laws of calls read from bytes and answered one after another: what two stretches of records come to together.
--     calls_in_front   calls are read from the records asked for, whatever stands behind them
--     calls_in_all     where every record was a call, reading goes on behind them
--     calls_in_stop    where one was none, nothing behind it is read
--     run_replies     the answers of a run of calls and then another
-- Assumes nothing.
use Rattle.std.specs.Prelude.{Option, Some, None}
use mathlib.Core.Path.{◌≡◌, refl, sym, ap, ◌∙◌}
use mathlib.Core.List.{List, [], ◌∷◌, ◌++◌, append_assoc, map-append}
use Prim.Native.Nat.{ℕ, zero, suc, ◌+◌, ◌*◌, ◌≤◌, ◌<◌, zero-le, suc-le-suc}
use native.Mathlib.Nat.{zero-add, suc-add, not-suc-le-zero, le_of_suc-le-suc}
use native.Mathlib.Omega.{arith}
use lib.ListN.{length, drop, length-drop}
use lib.Seq.{drop-append-le, drop-drop}
use Rattle.records.specs.declared.Call.{Call}
use Rattle.records.specs.declared.Reply.{Reply}
use Rattle.records.specs.Format.{call_bytes, answer_record, call_at}
use Rattle.records.proofs.RoundTrip.{calls}
use Rattle.steps.specs.Store.{Store}
use Rattle.steps.specs.Run.{run}
use Rattle.steps.proofs.Run.{run_append}
use Rattle.lanes.specs.Serve.{read_then, calls_in, reply_to, replies_of, records_of}

-- READING

pub calls_in_front : (n : ℕ) (bs more : List ℕ) → call_bytes * n ≤ length bs → calls_in n (bs ++ more) ≡ calls_in n bs
unfolding calls_in
calls_in_front zero bs more h = refl
calls_in_front (suc n) bs more h =
    let long : call_bytes ≤ length bs = omega arith in
    let rest : call_bytes * n ≤ length (drop call_bytes bs) = simp length-drop (omega arith) in
    let behind : calls_in n (drop call_bytes (bs ++ more)) ≡ calls_in n (drop call_bytes bs) =
    ap (calls_in n) (drop-append-le call_bytes bs more long) ∙ calls_in_front n (drop call_bytes bs) more rest in
    λ i. read_then (calls.behind bs more 0 long i) (behind i)

read_at_most : (r : Option Call) (xs : List Call) (n : ℕ) → length xs ≤ n → length (read_then r xs) ≤ suc n
read_at_most (Some c) xs n h = suc-le-suc h
read_at_most None xs n h = zero-le

-- no more calls than records
pub calls_in_at_most : (n : ℕ) (bs : List ℕ) → length (calls_in n bs) ≤ n
unfolding calls_in
calls_in_at_most zero bs = zero-le
calls_in_at_most (suc n) bs = read_at_most (call_at bs 0) (calls_in n (drop call_bytes bs)) n (calls_in_at_most n (drop call_bytes bs))

read_all : (r : Option Call) (xs ys zs : List Call) (n : ℕ) → length (read_then r xs) ≡ suc n → (length xs ≡ n → ys ≡ xs ++ zs)
    → read_then r ys ≡ read_then r xs ++ zs
read_all (Some c) xs ys zs n e f = ap (λ (l : List Call). c ∷ l) (f (omega arith))
read_all None xs ys zs n e f = absurd (omega arith)

pub calls_in_all : (n m : ℕ) (bs : List ℕ) → length (calls_in n bs) ≡ n
    → calls_in (n + m) bs ≡ calls_in n bs ++ calls_in m (drop (call_bytes * n) bs)
unfolding calls_in
calls_in_all zero m bs e = ap (λ (k : ℕ). calls_in k bs) (zero-add m)
calls_in_all (suc n) m bs e =
    let far : call_bytes + call_bytes * n ≡ call_bytes * suc n = omega arith in
    ap (λ (k : ℕ). calls_in k bs) (suc-add n m)
    ∙ read_all (call_at bs 0) (calls_in n (drop call_bytes bs)) (calls_in (n + m) (drop call_bytes bs))
    (calls_in m (drop (call_bytes * suc n) bs)) n e
    (λ all. calls_in_all n m (drop call_bytes bs) all
    ∙ ap (λ (l : List ℕ). calls_in n (drop call_bytes bs) ++ calls_in m l)
    (drop-drop (call_bytes * n) call_bytes bs ∙ ap (λ (k : ℕ). drop k bs) far))

read_stop : (r : Option Call) (xs ys : List Call) (n : ℕ) → length (read_then r xs) < suc n → (length xs < n → ys ≡ xs)
    → read_then r ys ≡ read_then r xs
read_stop (Some c) xs ys n h f = ap (λ (l : List Call). c ∷ l) (f (le_of_suc-le-suc h))
read_stop None xs ys n h f = refl

pub calls_in_stop : (n m : ℕ) (bs : List ℕ) → length (calls_in n bs) < n → calls_in (n + m) bs ≡ calls_in n bs
unfolding calls_in
calls_in_stop zero m bs h = absurd (not-suc-le-zero h)
calls_in_stop (suc n) m bs h =
    ap (λ (k : ℕ). calls_in k bs) (suc-add n m)
    ∙ read_stop (call_at bs 0) (calls_in n (drop call_bytes bs)) (calls_in (n + m) (drop call_bytes bs)) n h
    (λ less. calls_in_stop n m (drop call_bytes bs) less)

-- RUNNING

pub run_replies : (st : Store) (xs ys : List Call)
    → replies_of (run st (xs ++ ys)) ≡ replies_of (run st xs) ++ replies_of (run (run st xs).store ys)
run_replies st xs ys =
    ap replies_of (run_append st xs ys) ∙ map-append reply_to (run st xs).pairs (run (run st xs).store ys).pairs

pub records_append : (xs ys : List Reply) → records_of (xs ++ ys) ≡ records_of xs ++ records_of ys
unfolding records_of
records_append [] ys = refl
records_append (x ∷ xs) ys =
    ap (λ (l : List ℕ). answer_record x ++ l) (records_append xs ys) ∙ sym (append_assoc (answer_record x) (records_of xs) (records_of ys))
