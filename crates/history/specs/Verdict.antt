-- Beyond demand 3: the answer that the history alone calls for, and when FULL is given. Together they say that a history and the
-- number of cells decide every answer.
-- Assumes nothing.
use Rattle.std.specs.Prelude.{◌≡◌, ◌⊎◌, ◌↔◌, Bool, true, false, cond, not, ◌&&◌, ◌||◌, List, ◌∷◌, ◌++◌, length, take, Ok, Err}
use Rattle.std.specs.Prelude.{ℕ, zero, suc, ◌+◌, ◌≤◌, ◌<◌, leb, eqb}
use Rattle.std.proofs.Math.Option.{Option, none, some}
use Rattle.records.specs.declared.Call.{Call}
use Rattle.records.specs.declared.Refusal.{Refusal}
use Rattle.records.specs.Answers.{Answer, number_of, place_of}
use Rattle.steps.specs.declared.State.{State}
use Rattle.steps.specs.Record.{all_places, most_cells, is_prepared}
use Rattle.steps.specs.Check.{check_of, facts_of}
use Rattle.steps.specs.Store.{said_of}
use Rattle.steps.specs.Run.{Pair}
use Rattle.history.specs.History.{Event, last_write, Wrote, Ledger, done_at, ledger, leave, Reaches, from_fresh}

-- THE VERDICT

-- one of the numbers below n passes
unfoldable pub any_below : ℕ → (ℕ → Bool) → Bool
any_below zero t = false
any_below (suc n) t = t n || any_below n t

-- there is one
abbrev pub is_some : Option ℕ → Bool
is_some none = false
is_some (some v) = true

-- the events wrote the key
abbrev pub wrote_key : List Event → ℕ → Bool
wrote_key es k = is_some (last_write es k)

-- the key carries another unfinished transaction's write or one committed since the start
abbrev pub contested : Ledger → ℕ → ℕ → Bool
contested L p k =
    any_below all_places (λ q. not (eqb q p) && wrote_key (L.at q).did k)
    || any_below (length L.past) (λ m. leb (L.at p).seen m && wrote_key (done_at L m).did k)

-- a prepared transaction wrote the key
abbrev pub hidden : Ledger → ℕ → Bool
hidden L k = any_below all_places (λ q. is_prepared (L.at q).state && wrote_key (L.at q).did k)

-- the checks in their order, on a board in shape and the state that the ledger has for the place
abbrev pub checks_of : Ledger → Call → Answer
checks_of L c = check_of (facts_of true (L.at (place_of c)).state L.starts c)

-- the refusal where the test holds, otherwise what comes next
abbrev pub refuse_if : Bool → Answer → Answer → Answer
refuse_if t refusal later = cond t refusal later

-- the own last write, or else what comes next
abbrev pub or_else : Option ℕ → (ℕ → Answer) → Answer → Answer
or_else none f a = a
or_else (some v) f a = f v

-- the answer once no check has refused: a start's and a commit's running number, a read's value, and 0
abbrev pub due : Ledger → Call → Answer
due L (Call.Start p) = Ok (L.starts + 1)
due L (Call.Read p k) =
    or_else (last_write (L.at p).did k) (λ v. Ok v)
    (refuse_if (hidden L k) (Err Refusal.Prepared) (Ok (leave (take (L.at p).seen L.past) k)))
due L (Call.Update p k new) =
    or_else (last_write (L.at p).did k) (λ _. Ok 0) (refuse_if (contested L p k) (Err Refusal.Conflict) (Ok 0))
due L (Call.Prepare p) = Ok 0
due L (Call.Commit p) = Ok (length L.past + 1)
due L (Call.Rollback p) = Ok 0

-- the answer that a history calls for
unfoldable pub verdict : Ledger → Call → Answer
verdict L c = refuse_if (not (eqb (number_of (checks_of L c)) 0)) (checks_of L c) (due L c)

-- FULL

-- the update writes a key that its transaction has not written, and nothing is in its way
pub record NeedsCell (L : Ledger) (c : Call) : Type 0 where
  pub place : ℕ
  pub key : ℕ
  pub value : ℕ
  pub call : c ≡ Call.Update place key value
  pub reaches : Reaches L place key
  pub clear : contested L place key ≡ false

-- a write: of the unfinished transaction at place p to key k; of the committed transaction m to key k
pub data Item : Type 0 where
  unfinished : ℕ → ℕ → Item
  version : ℕ → ℕ → Item

-- no committed transaction from m + 1 to below w wrote the key
abbrev pub Last : Ledger → ℕ → ℕ → ℕ → Type 0
Last L m k w = (j : ℕ) → m < j → j < w → last_write (done_at L j).did k ≡ none

-- an unfinished write is needed; a committed one is while it is the key's last, or the last that an open transaction sees
abbrev pub Needed : Ledger → Item → Type 0
Needed L (unfinished p k) = (p < all_places) × Wrote (L.at p).did k
Needed L (version m k) =
    (m < length L.past) × Wrote (done_at L m).did k
    × (Last L m k (length L.past)
    ⊎ ((p : ℕ) × (p < all_places) × ((L.at p).state ≡ State.Open) × (m < (L.at p).seen) × Last L m k (L.at p).seen))

-- n different writes are needed
pub record Packed (n : ℕ) (L : Ledger) : Type 0 where
  pub item : (i : ℕ) → i < n → Item
  pub needed : (i : ℕ) (h : i < n) → Needed L (item i h)
  pub different : (i j : ℕ) (h : i < n) (g : j < n) → item i h ≡ item j g → i ≡ j

-- WHAT IS PROMISED

-- the pair's answer is this one
abbrev pub Answers : Pair → Answer → Type 0
Answers h a = h.said ≡ said_of a

-- the answer is the verdict; or it is FULL, at an update that needs a cell
abbrev pub Right : Ledger → Pair → Type 0
Right L h = Answers h (verdict L h.call) ⊎ (Answers h (Err Refusal.Full) × NeedsCell L h.call)

-- so is every answer from a fresh board
abbrev pub AllRight : Type 0
AllRight = (n : ℕ) → 0 < n → n ≤ most_cells → (calls : List Call) (before after : List Pair) (h : Pair)
    → (from_fresh n calls).pairs ≡ before ++ (h ∷ after) → Right (ledger before) h

-- and FULL is given exactly when as many different writes are still needed as there are cells
abbrev pub FullRight : Type 0
FullRight = (n : ℕ) → 0 < n → n ≤ most_cells → (calls : List Call) (before after : List Pair) (h : Pair)
    → (from_fresh n calls).pairs ≡ before ++ (h ∷ after) → NeedsCell (ledger before) h.call
    → (h.said.number ≡ number_of (Err Refusal.Full)) ↔ Packed n (ledger before)

-- so a ledger and the number of cells decide every answer
abbrev pub Decided : Type 0
Decided = (n : ℕ) → 0 < n → n ≤ most_cells → (calls calls' : List Call) (before after before' after' : List Pair) (h h' : Pair)
    → (from_fresh n calls).pairs ≡ before ++ (h ∷ after) → (from_fresh n calls').pairs ≡ before' ++ (h' ∷ after')
    → ledger before ≡ ledger before' → h.call ≡ h'.call → h.said ≡ h'.said
