-- `serve` meets its contract: before the loop all is left to serve, a turn serves one record, and after the last none is left (`Rest`).
-- Assumes nothing.
use mathlib.Core.Path.{◌≡◌, sym, ap, ◌∙◌}
use mathlib.Core.Bool.{true}
use Prim.Native.Nat.{ℕ, ◌+◌, ◌*◌, ◌-◌, ◌≤◌, ◌<◌, ◌^◌}
use native.Mathlib.Nat.{sub-zero}
use native.Mathlib.Omega.{arith}
use lib.ListN.{length}
use Rattle.records.specs.Answers.{value_of, place_of}
use Rattle.records.specs.Format.{call_bytes, answer_bytes, goes_in, call_at}
use Rattle.steps.specs.declared.Answered.{Answered}
use Rattle.steps.specs.Store.{Store, lent}
use Rattle.lanes.specs.declared.Stop.{Stop}
use Rattle.lanes.proofs.Replies.{call_place, replied, no_call_put}
use Rattle.lanes.proofs.Rest.{rest, last_stop, rest_whole, rest_none, turn_good, turn_bad}
use Rattle.lanes.proofs.serve.Goals as goal

pub loop-i-init : goal.loop-i-init
loop-i-init c =
    let s = c.args in
    let st = lent s.board s.cells.now in
    rest_whole st s.calls.now s.answers.now
    ∙ ap (λ (n : ℕ). rest n 0 (last_stop s.calls.now n) st s.calls.now s.answers.now) (sym c.min-records.ensures)
    ∙ ap (λ (left : ℕ). rest left 0 (last_stop s.calls.now c.min-records.result) st s.calls.now s.answers.now) (sym (sub-zero c.min-records.result))

pub returns-in_default : goal.returns-in_default
unfolding call_at
returns-in_default c =
    let l = c.loop-i in
    let n : ℕ = c.min-records.result in
    let here : l.i < n = omega arith in
    let room : answer_bytes * l.i + answer_bytes ≤ length l.answers = omega arith in
    sym (l.invariant
    ∙ turn_bad n l.i here (last_stop c.args.calls.now n) (lent l.board l.cells) c.args.calls.now l.answers c.write.new.bytes
    (sym c.in_default.ensures) (no_call_put l.answers (answer_bytes * l.i) room c.write.result c.write.new.bytes c.write.ensures))

pub loop-i-preserved : goal.loop-i-preserved
unfolding call_at
loop-i-preserved c =
    let l = c.loop-i in
    let n : ℕ = c.min-records.result in
    let st : Store = lent l.board l.cells in
    let here : l.i < n = omega arith in
    let room : answer_bytes * l.i + answer_bytes ≤ length l.answers = omega arith in
    let r : Answered = c.call-done.result in
    let small : value_of r.answer < 256 ^ 4 = omega arith in
    let place : goes_in 1 (place_of c.in-Some.c) ≡ true =
    call_place c.args.calls.now (call_bytes * l.i) c.in-Some.c (sym c.in-Some.ensures) in
    let w = c.write-in-loop-i in
    l.invariant
    ∙ turn_good n l.i here (last_stop c.args.calls.now n) st c.args.calls.now l.answers w.new.bytes
    c.in-Some.c r c.call-done.new.cells (sym c.in-Some.ensures) room c.call-done.ensures
    (replied l.answers (answer_bytes * l.i) room st c.in-Some.c r c.call-done.new.cells c.place_of-place.result w.result w.new.bytes
    place c.call-done.ensures c.place_of-place.ensures small w.ensures)

pub returns : goal.returns
returns c =
    let l = c.loop-i in
    let n : ℕ = c.min-records.result in
    let last : Stop = last_stop c.args.calls.now n in
    let done : l.i ≡ n = omega arith in
    let none : n - l.i ≡ 0 = omega arith in
    sym (l.invariant
    ∙ (λ i. rest (none i) (done i) last (lent l.board l.cells) c.args.calls.now l.answers)
    ∙ rest_none n last (lent l.board l.cells) c.args.calls.now l.answers
    ∙ ap (λ (stop : Stop). record {
      store = lent l.board l.cells;
      answers = l.answers;
      taken = call_bytes * n;
      written = answer_bytes * n;
      stop = stop;
    }) (sym c.last_stop.ensures))
