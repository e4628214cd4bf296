-- Records: a call's ten bytes and an answer's eight; what reading and writing one at an offset give.
-- Assumes nothing.
use Rattle.std.specs.Prelude.{Bool, true, false, ◌&&◌, cond, List, [], ◌∷◌, ◌++◌, Option, Some, None, Ok, Err}
use Rattle.std.specs.Prelude.{ℕ, zero, suc, ◌+◌, ◌*◌, ◌/◌, ◌%◌, ◌^◌, eqb, ltb, leb, length, get_or, take, drop}
use Rattle.records.specs.declared.Refusal.{Refusal}
use Rattle.records.specs.declared.Call.{Call}
use Rattle.records.specs.declared.Reply.{Reply}
use Rattle.records.specs.Answers.{Answer, number_of, value_of, place_of}

-- Call, 10 bytes
abbrev pub call_bytes : ℕ
call_bytes = 10

-- Answer, 8 bytes
abbrev pub answer_bytes : ℕ
answer_bytes = 8

-- numbers are little-endian: a number in so many bytes
abbrev pub bytes_of : ℕ → ℕ → List ℕ
bytes_of zero n = []
bytes_of (suc k) n = n % 256 ∷ bytes_of k (n / 256)

-- the number that bytes are
abbrev pub number_in : List ℕ → ℕ
number_in [] = 0
number_in (b ∷ bs) = b + 256 * number_in bs

-- a number goes into so many bytes
abbrev pub goes_in : ℕ → ℕ → Bool
goes_in k n = ltb n (256 ^ k)

-- kind (1 start, 2 read, 3 update, 4 prepare, 5 commit, 6 rollback)
abbrev pub kind_of : Call → ℕ
kind_of (Call.Start place) = 1
kind_of (Call.Read place key) = 2
kind_of (Call.Update place key value) = 3
kind_of (Call.Prepare place) = 4
kind_of (Call.Commit place) = 5
kind_of (Call.Rollback place) = 6

-- key is zero except in kinds 2 and 3
abbrev pub key_of : Call → ℕ
key_of (Call.Start place) = 0
key_of (Call.Read place key) = key
key_of (Call.Update place key value) = key
key_of (Call.Prepare place) = 0
key_of (Call.Commit place) = 0
key_of (Call.Rollback place) = 0

-- value zero except in kind 3
abbrev pub new_value_of : Call → ℕ
new_value_of (Call.Start place) = 0
new_value_of (Call.Read place key) = 0
new_value_of (Call.Update place key value) = value
new_value_of (Call.Prepare place) = 0
new_value_of (Call.Commit place) = 0
new_value_of (Call.Rollback place) = 0

-- Call: 43 4C, kind, place byte, key in two bytes, value in four
unfoldable pub call_record : Call → List ℕ
call_record c = 0x43 ∷ (0x4C ∷ (kind_of c ∷ (bytes_of 1 (place_of c) ++ (bytes_of 2 (key_of c) ++ bytes_of 4 (new_value_of c)))))

-- Answer: 41 4E, refusal number 0 to 12, place byte, value in four. With a number from 1 to 12 the value is zero.
unfoldable pub answer_record : Reply → List ℕ
answer_record r = 0x41 ∷ (0x4E ∷ (number_of r.answer ∷ (bytes_of 1 r.place ++ bytes_of 4 (value_of r.answer))))

-- a call has a record if its place goes into a byte, its key into two and its value into four
abbrev pub call_fits : Call → Bool
call_fits c = goes_in 1 (place_of c) && (goes_in 2 (key_of c) && goes_in 4 (new_value_of c))

-- an answer has a record if its place goes into a byte and its value into four
abbrev pub reply_fits : Reply → Bool
reply_fits r = goes_in 1 r.place && goes_in 4 (value_of r.answer)

-- whether bytes are the same
unfoldable pub same_bytes : List ℕ → List ℕ → Bool
same_bytes [] [] = true
same_bytes [] (b ∷ bs) = false
same_bytes (a ∷ bs) [] = false
same_bytes (a ∷ bs) (b ∷ cs) = eqb a b && same_bytes bs cs

-- the calls with a place, a key and a value in the order of their kinds; 0 is no kind, and gets one whose record has another
abbrev pub calls_of : ℕ → ℕ → ℕ → List Call
calls_of place key value =
    Call.Rollback place ∷ (Call.Start place ∷ (Call.Read place key ∷ (Call.Update place key value ∷
    (Call.Prepare place ∷ (Call.Commit place ∷ [])))))

-- the answers with a value in the order of their numbers
abbrev pub answers_of : ℕ → List Answer
answers_of value =
    Ok value ∷ (Err Refusal.Board ∷ (Err Refusal.Place ∷ (Err Refusal.Busy ∷ (Err Refusal.Idle ∷ (Err Refusal.Worn ∷ (Err Refusal.Spoiled ∷
    (Err Refusal.Held ∷ (Err Refusal.Key ∷ (Err Refusal.Conflict ∷ (Err Refusal.Prepared ∷ (Err Refusal.Full ∷ [])))))))))))

-- the call that a kind, a place, a key and a value name, with kind 6 for every kind past the list
abbrev pub call_of : ℕ → ℕ → ℕ → ℕ → Call
call_of kind place key value = get_or (calls_of place key value) kind (Call.Rollback place)

-- the answer that a number and a value name, with number 12 for every number past the list
abbrev pub answer_of : ℕ → ℕ → Answer
answer_of number value = get_or (answers_of value) number (Err Refusal.Record)

-- the one call that ten bytes could be the record of
unfoldable pub call_from : List ℕ → Call
call_from bs = call_of (get_or bs 2 0) (get_or bs 3 0) (number_in (take 2 (drop 4 bs))) (number_in (take 4 (drop 6 bs)))

-- the one answer, with its place, that eight bytes could be the record of
unfoldable pub reply_from : List ℕ → Reply
reply_from bs = record { place = get_or bs 3 0; answer = answer_of (get_or bs 2 0) (number_in (take 4 (drop 4 bs))) }

-- the call that the bytes are the record of; RECORD for bytes that are no call record
unfoldable pub call_in : List ℕ → Option Call
call_in bs = cond (same_bytes bs (call_record (call_from bs))) (Some (call_from bs)) None

-- the answer that the bytes are the record of; RECORD for bytes that are no answer record
unfoldable pub answer_in : List ℕ → Option Reply
answer_in bs = cond (same_bytes bs (answer_record (reply_from bs))) (Some (reply_from bs)) None

-- reading takes the record at a given offset in lent bytes; an offset past the end is RECORD
unfoldable pub call_at : List ℕ → ℕ → Option Call
call_at bs at = call_in (take call_bytes (drop at bs))

-- and so for an answer
unfoldable pub answer_at : List ℕ → ℕ → Option Reply
answer_at bs at = answer_in (take answer_bytes (drop at bs))

-- writing puts a record from a given offset and changes no other byte
unfoldable pub put_at : List ℕ → ℕ → List ℕ → List ℕ
put_at bs at rec = take at bs ++ (rec ++ drop (at + length rec) bs)

-- what writing gives: the number and the value of the answer, and the bytes afterwards
pub record Written : Type 0 where
  pub number : ℕ
  pub value : ℕ
  pub bytes : List ℕ

-- an answer and the bytes afterwards, as what writing gives
abbrev pub wrote : Answer → List ℕ → Written
wrote answer bs = record { number = number_of answer; value = value_of answer; bytes = bs }

-- RECORD for what has no record, or too few bytes to write one in; on RECORD no byte changes
abbrev pub written : Bool → List ℕ → ℕ → List ℕ → Written
written has bs at rec =
    cond (has && leb (at + length rec) (length bs)) (wrote (Ok 0) (put_at bs at rec)) (wrote (Err Refusal.Record) bs)

-- writing a call: RECORD for a call that has no record, or fewer than 10 bytes to write one in
unfoldable pub written_call : List ℕ → ℕ → Call → Written
written_call bs at call = written (call_fits call) bs at (call_record call)

-- writing an answer: RECORD for an answer that has no record, or fewer than 8 bytes to write one in
unfoldable pub written_answer : List ℕ → ℕ → Reply → Written
written_answer bs at reply = written (reply_fits reply) bs at (answer_record reply)
