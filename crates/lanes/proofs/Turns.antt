-- One turn of the desk on lent bytes: the bytes that are there, serving them, and what is left of them.
--     have_is           the first bytes are the cut record and what was got
--     put_..            bytes at the front of the lent ones
--     end_..            what `finish` writes
--     turn_is           what `turn_on` calls comes to a turn on those bytes
--     turn_ended, -got  what `turn` hands back at the end of the input, and after a read
-- Assumes nothing.
use mathlib.Core.Path.{◌≡◌, refl, sym, ap, ◌∙◌, subst⁻¹}
use mathlib.Core.Logic.{◌⊎◌, inl, inr, ⊎_elim}
use mathlib.Core.Bool.{Bool, true, false, cond}
use mathlib.Core.List.{List, [], ◌++◌}
use Prim.Native.Nat.{ℕ, ◌+◌, ◌*◌, ◌-◌, ◌/◌, ◌≤◌, min}
use native.Mathlib.Omega.{arith}
use borrow.Author.Tests.{eq-eqb, ne_eqb, leb-true, leb-false}
use lib.Dec.{eqb, leb}
use lib.ListN.{length, take, drop, length-take, length-drop, take-append-drop, drop_of_length-le}
use lib.Seq.{take_all, take-add, take-append_seam, length-take-le, length-slice}
use Rattle.std.specs.List.{copy_within}
use Rattle.records.specs.Format.{call_bytes, answer_bytes, answer_record, put_at}
use Rattle.records.proofs.Bytes.{put_front}
use Rattle.records.proofs.Fields.{answer_length}
use Rattle.steps.specs.Store.{Store, lent}
use Rattle.lanes.specs.declared.Served.{Served}
use Rattle.lanes.specs.declared.Desk.{Desk}
use Rattle.lanes.specs.Serve.{no_call, tried, Serving, serving, into_bytes, serve_first, serve_of, serve_into}
use Rattle.lanes.specs.Desk.{Input, serve_all, more_after, turn_on, at_end, turn_of, desk_in, TurnedIn, turned_in, turn_put, turn_into}
use Rattle.lanes.proofs.Calls.{calls_in_at_most}
use Rattle.lanes.proofs.Moves.{moved}
use Rattle.lanes.proofs.Pieces.{roomy}

-- THE BYTES THAT ARE THERE

-- the lesser of a number and a length is that number, or both are past the end
least_or_past : (n len k : ℕ) → k ≡ min n len → (k ≡ n) ⊎ ((len ≤ k) × (len ≤ n))
least_or_past n len k e = go (leb n len) refl
  where
    go : (t : Bool) → leb n len ≡ t → (k ≡ n) ⊎ ((len ≤ k) × (len ≤ n))
    go true h = inl (omega (arith, leb-true n len h))
    go false h = inr (omega (arith, leb-false n len h), omega (arith, leb-false n len h))

module _ (n : ℕ) (l : List ℕ) (k : ℕ) (e : k ≡ min n (length l)) where
  take_least : take k l ≡ take n l
  take_least =
      ⊎_elim (λ same. ap (λ (m : ℕ). take m l) same) (λ past. take_all k l past.0 ∙ sym (take_all n l past.1))
      (least_or_past n (length l) k e)

  drop_least : drop k l ≡ drop n l
  drop_least =
      ⊎_elim (λ same. ap (λ (m : ℕ). drop m l) same) (λ past. drop_of_length-le l past.0 ∙ sym (drop_of_length-le l past.1))
      (least_or_past n (length l) k e)

have_is : (left got : ℕ) (bytes : List ℕ) (l have : ℕ) → l ≡ min left (length bytes) → have ≡ l + min got (length bytes - l)
    → take have bytes ≡ take left bytes ++ take got (drop left bytes)
have_is left got bytes l have e h =
    let k : ℕ = min got (length bytes - l) in
    let behind : take k (drop l bytes) ≡ take got (drop left bytes) =
    take_least got (drop l bytes) k (ap (min got) (sym (length-drop l bytes)))
    ∙ ap (take got) (drop_least left bytes l e) in
    ap (λ (n : ℕ). take n bytes) h ∙ take-add l k bytes ∙ (λ i. take_least left bytes l e i ++ behind i)

-- bytes put where they stand are as they were
put_own : (left : ℕ) (bytes : List ℕ) → put_at bytes 0 (take left bytes) ≡ bytes
put_own left bytes =
    put_front bytes (take left bytes)
    ∙ ap (λ (m : List ℕ). take left bytes ++ m) (drop_least left bytes (length (take left bytes)) (length-take left bytes))
    ∙ take-append-drop left bytes

-- bytes put at the front are read back from there
pub put_first : (l rec : List ℕ) → take (length rec) (put_at l 0 rec) ≡ rec
put_first l rec = ap (take (length rec)) (put_front l rec) ∙ take-append_seam rec (drop (length rec) l)

-- THE END OF THE INPUT

pub end_none : (left : ℕ) (answers : List ℕ) → left ≡ 0 → (0 ≡ length (at_end left)) × (answers ≡ put_at answers 0 (at_end left))
end_none left answers e = rw e (refl, sym (put_front answers []))

pub end_cut : (left : ℕ) (answers answers' : List ℕ) → (left ≡ 0 → ⊥) → answers' ≡ put_at answers 0 (answer_record no_call)
    → (answer_bytes ≡ length (at_end left)) × (answers' ≡ put_at answers 0 (at_end left))
end_cut left answers answers' n e =
    let cut : answer_record no_call ≡ at_end left = ap (λ (t : Bool). cond t [] (answer_record no_call)) (sym (ne_eqb left 0 n)) in
    (sym (answer_length no_call) ∙ ap length cut, e ∙ ap (put_at answers 0) cut)

-- SERVING THEM

-- no more is taken than is there
pub taken_in : (st : Store) (bytes answers : List ℕ) → (serve_into st bytes answers).taken ≤ length bytes
unfolding serve_of serve_first
taken_in st bytes answers = omega (arith, calls_in_at_most (tried bytes (length answers)) bytes)

module _ (st : Store) (bytes : List ℕ) (have : ℕ) (answers : List ℕ) (there : have ≤ length bytes)
    (room : answer_bytes * (have / call_bytes) ≤ length answers) where
  abbrev part : List ℕ
  part = take have bytes

  part_long : length part ≡ have
  part_long = length-take-le have bytes there

  pub taken_there : (s : Served) (ws' answers' : List ℕ) → serving s ws' answers' ≡ serve_into st part answers → s.taken ≤ have
  taken_there s ws' answers' e =
      let h : s.taken ≤ length part = subst⁻¹ (λ (o : Serving). o.taken ≤ length part) e (taken_in st part answers) in
      omega (arith, part_long)

  enough : serve_of st part (length answers) ≡ serve_all st part
  enough = roomy st part (length answers) (rw part_long room)

  pub turn_is : (s : Served) (ws' bytes' answers' : List ℕ) (more : Bool)
      → serving s ws' answers' ≡ serve_into st part answers
      → bytes' ≡ copy_within bytes s.taken have 0 → more ≡ more_after s.stop
      → turned_in (record { desk = record { board = s.board; left = have - s.taken }; written = s.written; more = more }) ws' bytes' answers'
      ≡ turn_put bytes answers (turn_on st part)
  unfolding turn_on
  turn_is s ws' bytes' answers' more e m g =
      let o : serving s ws' answers' ≡ into_bytes answers (serve_all st part) = e ∙ ap (into_bytes answers) enough in
      let lefts : have - s.taken ≡ length (drop (serve_all st part).taken part) =
      sym (length-slice s.taken have bytes there) ∙ (λ i. length (drop (o i).taken part)) in
      let front : bytes' ≡ put_at bytes 0 (drop (serve_all st part).taken part) =
      m ∙ moved bytes s.taken have (taken_there s ws' answers' e) there ∙ (λ i. put_at bytes 0 (drop (o i).taken part)) in
      let goes : more ≡ more_after (serve_all st part).stop = g ∙ (λ i. more_after (o i).stop) in
      λ i. record {
        turned = record {
          desk = record { board = (o i).store.board; left = lefts i };
          written = (o i).written;
          more = goes i;
        };
        words = (o i).store.words;
        bytes = front i;
        answers = (o i).answers;
      }

-- ONE TURN

module _ (d : Desk) (ws bytes : List ℕ) (got : ℕ) (answers : List ℕ) (l : ℕ) (e : l ≡ min d.left (length bytes)) where
  cut_long : l ≡ length (take d.left bytes)
  cut_long = e ∙ sym (length-take d.left bytes)

  -- what was read is the end of the input, or bytes
  as_read : (t : Bool) → eqb got 0 ≡ t
      → turn_put bytes answers (turn_of (desk_in d ws bytes) (cond t Input.ended (Input.got (take got (drop d.left bytes)))))
      ≡ turn_into d ws bytes got answers
  as_read t z =
      ap (λ (u : Bool). turn_put bytes answers (turn_of (desk_in d ws bytes)
      (cond u Input.ended (Input.got (take got (drop d.left bytes)))))) (sym z)

  pub turn_ended : (written : ℕ) (answers' : List ℕ) → got ≡ 0 → written ≡ length (at_end l) → answers' ≡ put_at answers 0 (at_end l)
      → turned_in (record { desk = record { board = d.board; left = l }; written = written; more = false }) ws bytes answers'
      ≡ turn_into d ws bytes got answers
  turn_ended written answers' z w put =
      (λ i. record {
        turned = record {
          desk = record { board = d.board; left = cut_long i };
          written = (w ∙ ap (λ (n : ℕ). length (at_end n)) cut_long) i;
          more = false;
        };
        words = ws;
        bytes = sym (put_own d.left bytes) i;
        answers = (put ∙ ap (λ (n : ℕ). put_at answers 0 (at_end n)) cut_long) i;
      })
      ∙ as_read true (eq-eqb got 0 z)

  pub turn_got : (have : ℕ) (o : TurnedIn) → (got ≡ 0 → ⊥) → have ≡ l + min got (length bytes - l)
      → o ≡ turn_put bytes answers (turn_on (lent d.board ws) (take have bytes)) → o ≡ turn_into d ws bytes got answers
  turn_got have o n h r =
      r
      ∙ ap (λ (p : List ℕ). turn_put bytes answers (turn_on (lent d.board ws) p)) (have_is d.left got bytes l have e h)
      ∙ as_read false (ne_eqb got 0 n)
