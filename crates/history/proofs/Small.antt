-- Values that go into four bytes stay so: where every value that calls write is below a bound, so is every value that is answered.
--     small_ledger     no write in a ledger is above the bound
--     step_small       no answer's value is
-- Assumes nothing.
use Rattle.std.specs.Prelude.{Err}
use mathlib.Core.Path.{◌≡◌, refl, sym, ◌∙◌}
use mathlib.Core.Logic.{inr}
use mathlib.Core.Bool.{true}
use mathlib.Core.List.{List, [], ◌∷◌, ◌++◌}
use mathlib.Core.Option
use mathlib.Core.Option.{Option, none, some}
use Prim.Native.Nat.{ℕ, zero, suc, ◌+◌, ◌<◌}
use native.Mathlib.Omega.{arith}
use lib.ListN.{length, get_or, take}
use borrow.Author.Tests.{leb-false}
use Rattle.records.specs.declared.Call.{Call}
use Rattle.records.specs.declared.Refusal.{Refusal}
use Rattle.records.specs.Format.{new_value_of}
use Rattle.records.proofs.Fields.{All}
use Rattle.cells.specs.declared.Cell.{Cell}
use Rattle.steps.specs.declared.State.{State}
use Rattle.steps.specs.declared.Board.{Board}
use Rattle.steps.specs.Record.{all_places, most_starts, place_at}
use Rattle.steps.specs.Shape.{in_shape}
use Rattle.steps.specs.Store.{Store, Said, Outcome, cells_in}
use Rattle.steps.specs.Step.{done, facts, number_at, view_at, step}
use Rattle.steps.specs.Run.{Pair}
use Rattle.steps.proofs.Tests.{by_test}
use Rattle.steps.proofs.Cases.{Cleared, on_step, on_read, on_update, open_of}
use Rattle.steps.proofs.Keeps.{shape_of}
use Rattle.history.specs.History.{Event, write, last_write, Transaction, nobody, turned, Done, Ledger, new_ledger, put, tick}
use Rattle.history.specs.History.{no_pair, is_ok, is_conflict, accept, refuse, note, ledger_from, leave_from, leave}
use Rattle.history.proofs.Basics.{cases, eq?, none_some}
use Rattle.history.proofs.Facts.{cell_at, own_draft}
use Rattle.history.proofs.Link.{put_same, put_other, write_same, write_other, Linked, own_cell}
use Rattle.history.proofs.Seen.{open_busy, live_read}

module _ (B : ℕ) (positive : 0 < B) where
  -- every last write is below the bound
  abbrev Small : List Event → Type 0
  Small es = (k v : ℕ) → last_write es k ≡ some v → v < B

  abbrev SmallDone : Done → Type 0
  SmallDone d = Small d.did

  pub record SmallLedger (L : Ledger) : Type 0 where
    pub runs : (p : ℕ) → Small (L.at p).did
    pub past : All SmallDone L.past

  none_small : Small []
  none_small k v e = none_some none v refl e

  write_small : (es : List Event) (k new : ℕ) → new < B → Small es → Small (write k new ∷ es)
  write_small es k new h s j v e = cases (eq? j k)
      (λ z. let y : some new ≡ some v = sym (write_same es k new j z) ∙ e in let x : new ≡ v = cc in omega arith)
      (λ z. s j v (sym (write_other es k new j z) ∙ e))

  put_small : (f : ℕ → Transaction) (p : ℕ) (r : Transaction) → ((q : ℕ) → Small (f q).did) → Small r.did → (q : ℕ) → Small (put f p r q).did
  put_small f p r s t q = cases (eq? q p) (λ e. rw (put_same f p r q e) t) (λ e. rw (put_other f p r q e) (s q))

  all_append : (ds : List Done) (d : Done) → All SmallDone ds → SmallDone d → All SmallDone (ds ++ (d ∷ []))
  all_append [] d a s = (s, tt)
  all_append (x ∷ ds) d a s = (a.0, all_append ds d a.1 s)

  all_take : (n : ℕ) (ds : List Done) → All SmallDone ds → All SmallDone (take n ds)
  all_take zero ds a = tt
  all_take (suc n) [] a = tt
  all_take (suc n) (d ∷ ds) a = (a.0, all_take n ds a.1)

  -- A LEDGER
  accept_small : (L : Ledger) (c : Call) (v : Said) → new_value_of c < B → SmallLedger L → SmallLedger (accept L c v)
  unfolding accept
  accept_small L (Call.Start p) v h s = record { runs = put_small L.at p _ s.runs none_small; past = s.past }
  accept_small L (Call.Read p k) v h s = record { runs = put_small L.at p _ s.runs (s.runs p); past = s.past }
  accept_small L (Call.Update p k new) v h s =
      record { runs = put_small L.at p _ s.runs (write_small (L.at p).did k new h (s.runs p)); past = s.past }
  accept_small L (Call.Prepare p) v h s = record { runs = put_small L.at p _ s.runs (s.runs p); past = s.past }
  accept_small L (Call.Commit p) v h s =
      record { runs = put_small L.at p nobody s.runs none_small; past = all_append L.past _ s.past (s.runs p) }
  accept_small L (Call.Rollback p) v h s = record { runs = put_small L.at p nobody s.runs none_small; past = s.past }

  refuse_small : (L : Ledger) (c : Call) (n : ℕ) → SmallLedger L → SmallLedger (refuse L c n)
  unfolding refuse
  refuse_small L (Call.Start p) n s = record { runs = s.runs; past = s.past }
  refuse_small L (Call.Read p k) n s = record { runs = s.runs; past = s.past }
  refuse_small L (Call.Update p k new) n s =
      by_test (λ (f : ℕ → Transaction). SmallLedger (tick L f L.past)) (is_conflict n)
      (λ _. record { runs = put_small L.at p (turned State.Spoiled (L.at p)) s.runs (s.runs p); past = s.past })
      (λ _. record { runs = s.runs; past = s.past })
  refuse_small L (Call.Prepare p) n s = record { runs = s.runs; past = s.past }
  refuse_small L (Call.Commit p) n s = record { runs = s.runs; past = s.past }
  refuse_small L (Call.Rollback p) n s = record { runs = s.runs; past = s.past }

  note_small : (L : Ledger) (x : Pair) → new_value_of x.call < B → SmallLedger L → SmallLedger (note L x)
  note_small L x h s =
      by_test (λ (M : Ledger). SmallLedger M) (is_ok x.said.number)
      (λ _. accept_small L x.call x.said h s)
      (λ _. refuse_small L x.call x.said.number s)

  ledger_small : (hs : List Pair) (L : Ledger) → ((j : ℕ) → j < length hs → new_value_of (get_or hs j no_pair).call < B) → SmallLedger L
      → SmallLedger (ledger_from L hs)
  unfolding ledger_from
  ledger_small [] L f s = s
  ledger_small (h ∷ hs) L f s =
      ledger_small hs (note L h) (λ j l. f (suc j) (omega arith)) (note_small L h (f 0 (omega arith)) s)

  pub small_ledger : (hs : List Pair) → ((j : ℕ) → j < length hs → new_value_of (get_or hs j no_pair).call < B)
      → SmallLedger (ledger_from new_ledger hs)
  small_ledger hs f = ledger_small hs new_ledger f (record { runs = λ p. none_small; past = tt })

  -- WHAT COMMITTED TRANSACTIONS LEAVE
  from_small : (ds : List Done) (s : ℕ → ℕ) (k : ℕ) → ((j : ℕ) → s j < B) → All SmallDone ds → leave_from s ds k < B
  unfolding leave_from
  from_small [] s k h a = h k
  from_small (d ∷ ds) s k h a = from_small ds (λ j. Option.get_or (last_write d.did j) (s j)) k (λ j. one j (last_write d.did j) refl) a.1
    where
      one : (j : ℕ) (o : Option ℕ) → last_write d.did j ≡ o → Option.get_or o (s j) < B
      one j none e = h j
      one j (some v) e = a.0 j v e

  leave_small : (L : Ledger) (n k : ℕ) → SmallLedger L → leave (take n L.past) k < B
  leave_small L n k s = from_small (take n L.past) (λ j. 0) k (λ j. positive) (all_take n L.past s.past)

  -- AN ANSWER
  module _ (wide : most_starts + 1 < B) (st : Store) (L : Ledger) (s : in_shape st.board (length st.words) ≡ true)
      (𝓛 : Linked st.board (cells_in st) L) (small : SmallLedger L) where
    abbrev b : Board
    b = st.board

    abbrev cs : List Cell
    cs = cells_in st

    abbrev Below : Outcome → Type 0
    Below o = o.said.value < B

    done_small : (c : Call) → Cleared (facts st c) → Below (done st c)
    done_small (Call.Start p) g = omega (arith, leb-false most_starts b.starts (g (Err Refusal.Worn)))
    done_small (Call.Read p k) g =
        let l = leb-false all_places p (g (Err Refusal.Place)) in
        let o = open_of (place_at b p).state (g (Err Refusal.Idle)) (g (Err Refusal.Spoiled)) (g (Err Refusal.Held)) in
        on_read Below st p k
        (λ i f. small.runs p k (cell_at cs i).value (own_cell b cs L 𝓛 p i k l (open_busy b cs L 𝓛 p o) (own_draft (number_at b p) k cs i f)))
        (λ n t. positive)
        (λ n t. rw (live_read b cs L 𝓛 (view_at b p) (inr (p, l, o, refl)) k) (leave_small L (view_at b p) k small))
    done_small (Call.Update p k new) g = on_update Below st p k new (λ i f. positive) (λ n t. positive) (λ n t i f. positive) (λ n t f. positive)
    done_small (Call.Prepare p) g = positive
    done_small (Call.Commit p) g = let h = shape_of b (length st.words) s in omega (arith, h.few, h.room)
    done_small (Call.Rollback p) g = positive

    pub step_small : (c : Call) → (step st c).said.value < B
    step_small c = on_step Below st c (λ a h. omega (arith, h.value)) (done_small c)
