-- What reading and writing one kind of record promise, for every run of bytes, every offset and every value. For calls and for answers it is
-- proved in proofs/RoundTrip.antt.
-- Assumes nothing.
use Rattle.std.specs.Prelude.{◌≡◌, Bool, true, false, List, ◌++◌, ◌⊎◌, ◌↔◌, ℕ, ◌+◌, ◌≤◌, ◌<◌, length, get_or, take, drop, Option, Some, None, Ok, Err}
use Rattle.records.specs.declared.Refusal.{Refusal}
use Rattle.records.specs.Answers.{read_number, read_value}
use Rattle.records.specs.Format.{Written, wrote}

-- a value's record stands from the offset on
pub record Stands {A : Type 0} (size : ℕ) (has : A → Bool) (rec : A → List ℕ) (bs : List ℕ) (at : ℕ) : Type 0 where
  pub what : A
  pub fits : has what ≡ true
  pub there : take size (drop at bs) ≡ rec what

-- what is promised of one kind of record: its size, which values have one, what it is; what reading and writing give
pub record Promises {A : Type 0} (size : ℕ) (has : A → Bool) (rec : A → List ℕ)
    (read_at : List ℕ → ℕ → Option A) (written_at : List ℕ → ℕ → A → Written) : Type 0 where
  -- each record has this many bytes, and no two values that have a record have the same
  pub long : (a : A) → length (rec a) ≡ size
  pub one : (a b : A) → has a ≡ true → has b ≡ true → rec a ≡ rec b → a ≡ b
  -- reading finds a value exactly if it has a record and that stands from the offset on
  pub reads : (bs : List ℕ) (at : ℕ) (a : A) →
      (read_at bs at ≡ Some a) ↔ ((has a ≡ true) × (take size (drop at bs) ≡ rec a))
  -- and RECORD exactly if no record stands there
  pub refuses : (bs : List ℕ) (at : ℕ) →
      (read_at bs at ≡ None) ↔ ((a : A) → has a ≡ true → take size (drop at bs) ≡ rec a → ⊥)
  -- by their numbers: 0 OK exactly if a record stands there, 12 RECORD exactly if none does; the value is 0
  pub reads_ok : (bs : List ℕ) (at : ℕ) → (read_number (read_at bs at) ≡ 0) ↔ Stands size has rec bs at
  pub reads_none : (bs : List ℕ) (at : ℕ) → (read_number (read_at bs at) ≡ 12) ↔ (Stands size has rec bs at → ⊥)
  pub reads_zero : (bs : List ℕ) (at : ℕ) → read_value (read_at bs at) ≡ 0
  -- so at an offset with too few bytes from there on, at the end and past it
  pub short : (bs : List ℕ) (at : ℕ) → length bs < at + size → read_at bs at ≡ None
  -- what stands behind the record is not looked at
  pub behind : (bs more : List ℕ) (at : ℕ) → at + size ≤ length bs → read_at (bs ++ more) at ≡ read_at bs at
  -- writing is done exactly if the value has a record and there is room for it
  pub writes : (bs : List ℕ) (at : ℕ) (a : A) →
      ((written_at bs at a).number ≡ 0) ↔ ((has a ≡ true) × (at + size ≤ length bs))
  -- otherwise the answer is RECORD and no byte changes
  pub keeps : (bs : List ℕ) (at : ℕ) (a : A) → (has a ≡ false) ⊎ (length bs < at + size) →
      written_at bs at a ≡ wrote (Err Refusal.Record) bs
  -- every byte outside the record is as it was, and there are as many
  pub others : (bs : List ℕ) (at : ℕ) (a : A) (i : ℕ) → (i < at) ⊎ (at + size ≤ i) →
      get_or (written_at bs at a).bytes i 0 ≡ get_or bs i 0
  pub as_long : (bs : List ℕ) (at : ℕ) (a : A) → length (written_at bs at a).bytes ≡ length bs
  -- written and then read at the same offset: the same value
  pub returns : (bs : List ℕ) (at : ℕ) (a : A) → (written_at bs at a).number ≡ 0 →
      read_at (written_at bs at a).bytes at ≡ Some a
  -- read and then written at the same offset: the same bytes
  pub again : (bs : List ℕ) (at : ℕ) (a : A) → read_at bs at ≡ Some a → written_at bs at a ≡ wrote (Ok 0) bs
