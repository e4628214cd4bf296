-- Turns one after another on the same lent bytes send what the desk writes: `turns`.
--     sends_..     a turn after a read: what it sends, and what the rest of the input comes to
-- Assumes nothing.
use mathlib.Core.Path.{◌≡◌, refl, sym, ap, ◌∙◌, subst⁻¹}
use mathlib.Core.Bool.{Bool, true, false, cond, true≢false}
use mathlib.Core.List.{List, [], ◌++◌, append-nil}
use Prim.Native.Nat.{ℕ, ◌<◌}
use native.Mathlib.Omega.{arith}
use borrow.Author.Tests.{ne_eqb}
use lib.Dec.{eqb}
use lib.ListN.{length}
use Rattle.records.specs.Format.{call_bytes}
use Rattle.steps.specs.Store.{lent}
use Rattle.lanes.specs.Desk.{desk_words, desk_of, AtDesk, Input, Turning, turn_of, fresh_desk, desk_in, input_in, TurnedIn, turn_put}
use Rattle.lanes.specs.Desk.{Lent, turn_after, Keeps, brought, sent_by, left_by, Turns, TurnsPromise}
use Rattle.lanes.proofs.Pieces.{rest_of, piece_turn, cut_short, ends}
use Rattle.lanes.proofs.Turns.{put_first}

-- what a turn put into lent bytes is read back from them
desk_back : (bytes answers : List ℕ) (t : Turning) →
    let x = left_by (turn_put bytes answers t) in
    desk_in x.desk x.words x.bytes ≡ t.desk
desk_back bytes answers t =
    λ i. record { store = t.desk.store; cut = put_first bytes t.desk.cut i }

-- the desk, as a value
abbrev desk_at : Lent → AtDesk
desk_at x = desk_in x.desk x.words x.bytes

-- one read, and the turn after it
module _ (x : Lent) (bytes : List ℕ) (n : ℕ) (k : Keeps x bytes) where
  abbrev turn : Turning
  turn = turn_of (desk_in x.desk x.words bytes) (input_in x.desk.left bytes n)

  as_read : (t : Bool) → eqb n 0 ≡ t
      → turn ≡ turn_of (desk_at x) (cond t Input.ended (Input.got (brought x bytes n)))
  as_read t e =
      λ i. turn_of (record { store = lent x.desk.board x.words; cut = k i })
      (cond (e i) Input.ended (Input.got (brought x bytes n)))

  sent_is : sent_by (turn_after x bytes n) ≡ turn.sends
  sent_is = put_first x.answers turn.sends

  desk_is : desk_at (left_by (turn_after x bytes n)) ≡ turn.desk
  desk_is = desk_back bytes x.answers turn

  -- a turn after a read that brought something
  module _ (some : eqb n 0 ≡ false) where
    abbrev value : Turning
    value = turn_of (desk_at x) (Input.got (brought x bytes n))

    more_is : turn.more ≡ value.more
    more_is = ap (λ (u : Turning). u.more) (as_read false some)

    -- it is the last: it met bytes that are no call
    sends_last : turn.more ≡ false → (unread : List ℕ) → sent_by (turn_after x bytes n) ≡ rest_of (desk_at x) (brought x bytes n ++ unread)
    sends_last m unread =
        sent_is
        ∙ ap (λ (u : Turning). u.sends) (as_read false some)
        ∙ sym (append-nil value.sends)
        ∙ ap (λ (b : Bool). value.sends ++ cond b (rest_of value.desk unread) []) (sym m ∙ more_is)
        ∙ sym (piece_turn (desk_at x) (brought x bytes n) unread)

    -- there is more to do: the next begins with less than a record, and with what the rest comes to
    next_short : turn.more ≡ true → length (desk_at (left_by (turn_after x bytes n))).cut < call_bytes
    next_short m =
        subst⁻¹ (λ (d : AtDesk). length d.cut < call_bytes) (desk_is ∙ ap (λ (u : Turning). u.desk) (as_read false some))
        (cut_short (desk_at x) (brought x bytes n) (sym more_is ∙ m))

    sends_next : turn.more ≡ true → (input : List ℕ)
        → sent_by (turn_after x bytes n) ++ rest_of (desk_at (left_by (turn_after x bytes n))) input
        ≡ rest_of (desk_at x) (brought x bytes n ++ input)
    sends_next m input =
        (λ i. sent_is i ++ rest_of (desk_is i) input)
        ∙ ap (λ (u : Turning). u.sends ++ rest_of u.desk input) (as_read false some)
        ∙ ap (λ (b : Bool). value.sends ++ cond b (rest_of value.desk input) []) (sym m ∙ more_is)
        ∙ sym (piece_turn (desk_at x) (brought x bytes n) input)

  -- after the end of the input there is no more to do
  more_some : turn.more ≡ true → eqb n 0 ≡ false
  more_some m = go (eqb n 0) refl
    where
      go : (t : Bool) → eqb n 0 ≡ t → t ≡ false
      go true e = absurd (true≢false (sym m ∙ ap (λ (u : Turning). u.more) (as_read true e)))
      go false e = refl

-- at the end of the input a cut record is RECORD
sends_end : (x : Lent) (bytes : List ℕ) → Keeps x bytes → length (desk_at x).cut < call_bytes
    → sent_by (turn_after x bytes 0) ≡ rest_of (desk_at x) []
sends_end x bytes k h =
    sent_is x bytes 0 k
    ∙ ap (λ (t : Turning). t.sends) (as_read x bytes 0 k true refl)
    ∙ ends (lent x.desk.board x.words) (desk_at x).cut h

sends : (x : Lent) {input out : List ℕ} {t : TurnedIn} → Turns x input out t → t.turned.more ≡ false
    → length (desk_at x).cut < call_bytes → out ≡ rest_of (desk_at x) input
sends x (Turns.ended bytes k) e h = sends_end x bytes k h
sends x (Turns.last bytes n unread k some) e h = sends_last x bytes n k (ne_eqb n 0 (λ z. omega arith)) e unread
sends x (Turns.next {input = input} bytes n k m r) e h =
    let some : eqb n 0 ≡ false = more_some x bytes n k m in
    ap (λ (l : List ℕ). sent_by (turn_after x bytes n) ++ l)
    (sends (left_by (turn_after x bytes n)) r e (next_short x bytes n k some m))
    ∙ sends_next x bytes n k some m input

-- the turns of a fresh desk send what the desk writes
pub turns : TurnsPromise
unfolding desk_of
turns bytes answers input out t r e =
    sends (record { desk = fresh_desk; words = desk_words; bytes = bytes; answers = answers }) r e (omega arith)
