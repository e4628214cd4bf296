-- What code that reads any kind of record relies on, shown of the two kinds that there are: in no bytes no record stands. All that they
-- promise is in Promises.
-- Assumes nothing.
use Rattle.std.specs.Prelude.{◌≡◌, refl, [], None}
use Rattle.records.specs.Format.{call_record, call_in, answer_record, answer_in, same_bytes}

-- no call in no bytes
pub call_in_none : call_in [] ≡ None
unfolding call_in call_record same_bytes
call_in_none = refl

-- nor an answer
pub answer_in_none : answer_in [] ≡ None
unfolding answer_in answer_record same_bytes
answer_in_none = refl
