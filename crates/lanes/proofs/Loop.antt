-- The desk over a reader and a writer, and how far its loop has come.
--     Came, came   a read: it keeps the bytes that are left, and brings some of what the reader had left; at its end: `ends`
--     Led          turns that lead on from here lead on from the first
--     led_..       the start, and one more turn
--     leads, ran   what the loop leaves, wherever it stops
--     served       it stopped after a turn that said that there is no more to do, and nothing failed
-- Assumes nothing.
use mathlib.Core.Path.{◌≡◌, refl, sym, ap, ◌∙◌, subst}
use mathlib.Core.Bool.{Bool, true, false, cond, false≢true}
use mathlib.Core.List.{List, [], ◌++◌, append_assoc}
use Prim.Native.Nat.{ℕ, zero, suc, ◌+◌, ◌≤◌, ◌<◌}
use native.Mathlib.Omega.{arith}
use lib.Dec.{eqb}
use lib.ListN.{length, take, drop, length-append}
use lib.Seq.{drop_at, take-append-le, length-take-le}
use borrow.Rule.Slice.PartMut.{put_mid, post_of}
use Rattle.std.specs.Prelude.{Option, Some, None, Result, Ok, Err, IfSome}
use Rattle.std.specs.Result.{result_unwrap_or}
use Rattle.std.specs.Io.{ReadsAtMost}
use Rattle.std.specs.Io.KnownBytes.{Appends, Consumes, ReadConsumes, IsAtEnd}
use Rattle.std.proofs.Common.{le_refl}
use Rattle.std.proofs.KnownBytes.{Appends-nil, Appends-trans, Consumes-nil, Consumes-trans, Consumes-kept}
use Rattle.std.proofs.lemmas.Slice.{take-put_mid_below}
use Rattle.records.specs.Format.{call_bytes}
use Rattle.records.proofs.Bytes.{put_front}
use Rattle.lanes.specs.declared.Desk.{Desk}
use Rattle.lanes.specs.declared.Turned.{Turned}
use Rattle.lanes.specs.Desk.{desk_words, desk_of, fresh_desk, Turning, Input, turn_of, desk_in, TurnedIn, turned_in}
use Rattle.lanes.specs.Desk.{Lent, turn_after, Keeps, brought, sent_by, left_by, Turns}
use Rattle.lanes.specs.Loop.{Ran, AllServed}
use Rattle.lanes.proofs.Pieces.{cut_short}
use Rattle.lanes.proofs.Sends.{turns}

-- A READ

-- so many bytes came, behind those that are left
pub record Came (x : Lent) (reads : Option (List ℕ)) (bytes : List ℕ) (n : ℕ) (reads' : Option (List ℕ)) : Type 0 where
  pub keeps : Keeps x bytes
  pub taken : Consumes reads reads' (brought x bytes n)

-- how many bytes it brings: none where it fails
module _ {E : Type 0} (r : Result ℕ E) (reads reads' : Option (List ℕ)) (buf : List ℕ) where
  fits : ReadsAtMost r buf → result_unwrap_or r 0 ≤ length buf
  fits h = elim r as (λ s. ReadsAtMost s buf → result_unwrap_or s 0 ≤ length buf) [ Ok n ↦ λ b. b.0 | Err e ↦ λ b. omega arith ] h

  takes : ReadConsumes reads reads' r buf → Consumes reads reads' (take (result_unwrap_or r 0) buf)
  takes h =
      elim r as (λ s. ReadConsumes reads reads' s buf → Consumes reads reads' (take (result_unwrap_or s 0) buf))
      [ Ok n ↦ λ b. b.0 | Err e ↦ λ b. Consumes-kept reads reads reads' [] (Consumes-nil reads) b ] h

  -- one that brings nothing, and does not fail, is at the end
  pub ends : (n : ℕ) {m : ℕ} → r ≡ Ok m → 0 < length buf → n ≡ result_unwrap_or r 0 → ReadConsumes reads reads' r buf
      → n ≡ 0 → IsAtEnd reads'
  ends n {m} e some is h z =
      (subst (λ (s : Result ℕ E). ReadConsumes reads reads' s buf) e h).1
      (sym (ap (λ (s : Result ℕ E). result_unwrap_or s 0) e) ∙ sym is ∙ z) some

  -- into the bytes behind those that are left
  pub came : (x : Lent) (room n : ℕ) → x.desk.left ≤ length x.bytes → n ≡ result_unwrap_or r 0
      → ReadsAtMost r buf → ReadConsumes reads reads' r buf → Came x reads (put_mid x.desk.left room x.bytes buf) n reads'
  came x room n h e bound bytes =
      let left : ℕ = x.desk.left in
      let more : List ℕ = post_of left room x.bytes in
      let brings : brought x (put_mid left room x.bytes buf) n ≡ take (result_unwrap_or r 0) buf =
      ap (take n) (drop_at (take left x.bytes) (buf ++ more) left (length-take-le left x.bytes h))
      ∙ ap (λ (m : ℕ). take m (buf ++ more)) e
      ∙ take-append-le (result_unwrap_or r 0) buf more (fits bound) in
      record {
        keeps = take-put_mid_below left room x.bytes buf left (le_refl left) h;
        taken = subst (Consumes reads reads') (sym brings) (takes bytes);
      }

-- A TURN

module _ (x : Lent) (bytes : List ℕ) (n : ℕ) where
  abbrev turn : Bool → Turning
  turn t = turn_of (desk_in x.desk x.words bytes) (cond t Input.ended (Input.got (brought x bytes n)))

  -- where there is more to do, less than a record is left
  left_short : (t : Bool) → (turn t).more ≡ true → length (turn t).desk.cut < call_bytes
  left_short true e = absurd (false≢true e)
  left_short false e = cut_short (desk_in x.desk x.words bytes) (brought x bytes n) e

  -- it writes no more than there is room for
  written_fits : (turn_after x bytes n).turned.written ≤ length (turn_after x bytes n).answers
  written_fits =
      let sends : List ℕ = (turn (eqb n 0)).sends in
      omega (arith, ap length (put_front x.answers sends), length-append sends (drop (length sends) x.answers))

  -- any may be the last; a read that brings nothing is the end of the input
  last_turn : Keeps x bytes → (unread : List ℕ) → (n ≡ 0 → unread ≡ [])
      → Turns x (brought x bytes n ++ unread) (sent_by (turn_after x bytes n)) (turn_after x bytes n)
  last_turn k unread z = go n z
    where
      go : (m : ℕ) → (m ≡ 0 → unread ≡ []) → Turns x (brought x bytes m ++ unread) (sent_by (turn_after x bytes m)) (turn_after x bytes m)
      go zero e =
          subst (λ (l : List ℕ). Turns x l (sent_by (turn_after x bytes 0)) (turn_after x bytes 0)) (sym (e refl)) (Turns.ended bytes k)
      go (suc m) e = Turns.last bytes (suc m) unread k (omega arith)

-- HOW FAR THE LOOP HAS COME

-- the fresh desk on what it is lent
abbrev pub at_start : List ℕ → List ℕ → Lent
at_start bytes answers = record { desk = fresh_desk; words = desk_words; bytes = bytes; answers = answers }

-- turns that lead to what the last of them hands back
abbrev pub Leads : Lent → TurnedIn → Type 0
Leads x t = (input : List ℕ) × ((out : List ℕ) × Turns x input out t)

-- so many turns on: what the reader had left and the writer held at first, and here
pub record Led (first : Lent) (reads writes : Option (List ℕ)) (count : ℕ) (x : Lent) (reads' writes' : Option (List ℕ)) : Type 0 where
  pub read : List ℕ
  pub sent : List ℕ
  pub taken : Consumes reads reads' read
  pub given : Appends writes writes' sent
  pub on : (input out : List ℕ) (t : TurnedIn) → Turns x input out t → Turns first (read ++ input) (sent ++ out) t
  pub short : x.desk.left < call_bytes
  pub reached : 0 < count → (t : Turned) × Leads first (turned_in t x.words x.bytes x.answers)

-- before the first turn
pub led_none : (reads writes : Option (List ℕ)) (d : Desk) (ws bytes answers : List ℕ) → d ≡ fresh_desk → ws ≡ desk_words
    → Led (at_start bytes answers) reads writes 0 (record { desk = d; words = ws; bytes = bytes; answers = answers }) reads writes
led_none reads writes d ws bytes answers e f =
    let none : Led (at_start bytes answers) reads writes 0 (at_start bytes answers) reads writes = record {
      read = [];
      sent = [];
      taken = Consumes-nil reads;
      given = Appends-nil writes;
      on = λ input out t r. r;
      short = omega arith;
      reached = λ (h : 0 < 0). absurd (omega arith);
    } in
    subst (λ (x : Lent). Led (at_start bytes answers) reads writes 0 x reads writes)
    (λ i. record { desk = sym e i; words = sym f i; bytes = bytes; answers = answers }) none

-- one more turn
module _ {b a : List ℕ} {reads writes reads' writes' : Option (List ℕ)} {count : ℕ} {x : Lent} {bytes : List ℕ} {n : ℕ}
    {reads'' : Option (List ℕ)} (l : Led (at_start b a) reads writes count x reads' writes') (v : Came x reads' bytes n reads'')
    (o : TurnedIn) (e : o ≡ turn_after x bytes n) where
  abbrev piece : List ℕ
  piece = brought x bytes n

  taken : Consumes reads reads'' (l.read ++ piece)
  taken = Consumes-trans reads reads' reads'' l.read piece l.taken v.taken

  -- what it sends has room
  pub sends_fit : o.turned.written ≤ length o.answers
  sends_fit = subst (λ (u : TurnedIn). u.turned.written ≤ length u.answers) (sym e) (written_fits x bytes n)

  to_last : (unread : List ℕ) → (n ≡ 0 → unread ≡ []) → Turns (at_start b a) (l.read ++ (piece ++ unread)) (l.sent ++ sent_by o) o
  to_last unread z =
      subst (λ (u : TurnedIn). Turns (at_start b a) (l.read ++ (piece ++ unread)) (l.sent ++ sent_by u) u) (sym e)
      (l.on (piece ++ unread) (sent_by (turn_after x bytes n)) (turn_after x bytes n) (last_turn x bytes n v.keeps unread z))

  -- it may be the last
  pub leads : Leads (at_start b a) o
  leads = (l.read ++ (piece ++ []), (l.sent ++ sent_by o, to_last [] (λ z. refl)))

  -- what leads on from a turn leads on from the first
  abbrev OnFrom : TurnedIn → Type 0
  OnFrom u =
      u.turned.more ≡ true → (input out : List ℕ) (t : TurnedIn) → Turns (left_by u) input out t
      → Turns (at_start b a) ((l.read ++ piece) ++ input) ((l.sent ++ sent_by u) ++ out) t

  on_next : OnFrom o
  on_next =
      let there : TurnedIn = turn_after x bytes n in
      subst OnFrom (sym e)
      (λ m input out t r.
      subst (λ (i : List ℕ). Turns (at_start b a) i ((l.sent ++ sent_by there) ++ out) t) (sym (append_assoc l.read piece input))
      (subst (λ (s : List ℕ). Turns (at_start b a) (l.read ++ (piece ++ input)) s t) (sym (append_assoc l.sent (sent_by there) out))
      (l.on (piece ++ input) (sent_by there ++ out) t (Turns.next bytes n v.keeps m r))))

  -- there is more to do, and what it sends is written
  pub led_next : {writes'' : Option (List ℕ)} → o.turned.more ≡ true → Appends writes' writes'' (sent_by o)
      → Led (at_start b a) reads writes (count + 1) (left_by o) reads'' writes''
  led_next {writes''} m w =
      record {
        read = l.read ++ piece;
        sent = l.sent ++ sent_by o;
        taken = taken;
        given = Appends-trans writes writes' writes'' l.sent (sent_by o) l.given w;
        on = on_next m;
        short =
            subst (λ (u : TurnedIn). u.turned.more ≡ true → u.turned.desk.left < call_bytes) (sym e) (left_short x bytes n (eqb n 0)) m;
        reached = λ z. (o.turned, leads);
      }

  -- it is the last, at the end of what is read or at bytes that are no call, and what it sends is written
  pub served : (writes'' : Option (List ℕ)) → o.turned.more ≡ false → (n ≡ 0 → IsAtEnd reads'')
      → Appends writes' writes'' (sent_by o) → AllServed reads writes writes''
  served writes'' f z w = go reads reads'' taken z
    where
      go : (r r'' : Option (List ℕ)) → Consumes r r'' (l.read ++ piece) → (n ≡ 0 → IsAtEnd r'')
          → IfSome r (λ input. Appends writes writes'' (desk_of input))
      go None r'' p z = tt
      go (Some xs) None p z = absurd p
      go (Some xs) (Some ys) p z =
          let out : l.sent ++ sent_by o ≡ desk_of xs =
          turns b a (l.read ++ (piece ++ ys)) (l.sent ++ sent_by o) o (to_last ys z) f
          ∙ ap desk_of (sym (p ∙ append_assoc l.read piece ys)) in
          subst (Appends writes writes'') out (Appends-trans writes writes' writes'' l.sent (sent_by o) l.given w)

-- what the loop comes to
pub ran : {b a ws' bytes' answers' : List ℕ} (t : Turned) → Leads (at_start b a) (turned_in t ws' bytes' answers')
    → Ran b a ws' bytes' answers'
ran {b} {a} {ws'} {bytes'} {answers'} t l =
    record {
      input = l.0;
      out = l.1.0;
      turned = t;
      turns = l.1.1;
      writes = turns b a l.0 l.1.0 (turned_in t ws' bytes' answers') l.1.1;
    }
