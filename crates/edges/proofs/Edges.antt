-- Document 01 at its edges, a theorem for each list, by computation.
--     shapes          the boards that are just in shape, and those that are just not
--     checks          each refusal of each state, and the last start, place and key
--     order           where two rows of the table hold, which is given
--     steps           what each step does to the record and to every word
--     calls_written, calls_read, no_calls_read, calls_read_at, calls_written_at             the records of calls
--     answers_written, answers_read, no_answers_read, answers_read_at, answers_written_at   the records of answers
--     desk_writes     what the desk writes; desk_starts: on which board
-- Assumes nothing.
use mathlib.Core.Path.{refl}
use Rattle.fields.specs.Bytes.{same_bytes, put_at}
use Rattle.records.specs.Format.{call_record, answer_record, call_from, reply_from, call_in, answer_in, call_at, answer_at, written_call, written_answer}
use Rattle.cells.specs.Cells.{cells_of, past_cells, words_of, with_cells}
use Rattle.scans.specs.Rules.{lowest_from, has_cell, newest, own_at, foreign_with, newest_seen, conflict}
use Rattle.steps.specs.Shape.{in_shape}
use Rattle.checks.specs.Check.{first_of, check_of}
use Rattle.places.specs.Spent.{has_place, reusable, held_back}
use Rattle.steps.specs.Step.{shown_at, updated_as, step}
use Rattle.steps.specs.Run.{run}
use Rattle.lanes.specs.Serve.{calls_in, records_of}
use Rattle.turns.specs.Desk.{answers_to, desk_of}
use Rattle.edges.specs.Shape.{ShapesHold}
use Rattle.edges.specs.Checks.{ChecksHold}
use Rattle.edges.specs.Order.{OrderHolds}
use Rattle.edges.specs.Steps.{StepsHold}
use Rattle.edges.specs.Records.{CallsWritten, CallsRead, NoCallsRead, CallsReadAt, CallsWrittenAt, AnswersWritten, AnswersRead, NoAnswersRead}
use Rattle.edges.specs.Records.{AnswersReadAt, AnswersWrittenAt}
use Rattle.edges.specs.Desk.{DeskWrites, DeskStarts}

pub shapes : ShapesHold
unfolding cells_of past_cells words_of with_cells lowest_from has_cell newest own_at foreign_with newest_seen conflict
    in_shape first_of check_of has_place reusable held_back shown_at updated_as step
shapes = refl

pub checks : ChecksHold
unfolding cells_of past_cells words_of with_cells lowest_from has_cell newest own_at foreign_with newest_seen conflict
    in_shape first_of check_of has_place reusable held_back shown_at updated_as step
checks = refl

pub order : OrderHolds
unfolding cells_of past_cells words_of with_cells lowest_from has_cell newest own_at foreign_with newest_seen conflict
    in_shape first_of check_of has_place reusable held_back shown_at updated_as step
order = refl

pub steps : StepsHold
unfolding cells_of past_cells words_of with_cells lowest_from has_cell newest own_at foreign_with newest_seen conflict
    in_shape first_of check_of has_place reusable held_back shown_at updated_as step
steps = refl

pub calls_written : CallsWritten
unfolding call_record put_at written_call
calls_written = refl

pub calls_read : CallsRead
unfolding call_record same_bytes call_from call_in call_at
calls_read = refl

pub no_calls_read : NoCallsRead
unfolding call_record same_bytes call_from call_in call_at
no_calls_read = refl

pub calls_read_at : CallsReadAt
unfolding call_record same_bytes call_from call_in call_at
calls_read_at = refl

pub calls_written_at : CallsWrittenAt
unfolding call_record put_at written_call
calls_written_at = refl

pub answers_written : AnswersWritten
unfolding answer_record put_at written_answer
answers_written = refl

pub answers_read : AnswersRead
unfolding answer_record same_bytes reply_from answer_in answer_at
answers_read = refl

pub no_answers_read : NoAnswersRead
unfolding answer_record same_bytes reply_from answer_in answer_at
no_answers_read = refl

pub answers_read_at : AnswersReadAt
unfolding answer_record same_bytes reply_from answer_in answer_at
answers_read_at = refl

pub answers_written_at : AnswersWrittenAt
unfolding answer_record put_at written_answer
answers_written_at = refl

pub desk_writes : DeskWrites
unfolding desk_of answers_to calls_in run records_of call_at call_in call_from call_record answer_record same_bytes
    cells_of past_cells words_of with_cells lowest_from has_cell newest own_at foreign_with newest_seen conflict
    in_shape first_of check_of has_place reusable held_back shown_at updated_as step
desk_writes = refl

pub desk_starts : DeskStarts
unfolding desk_of words_of
desk_starts input = refl
