-- One turn behind those that led here (`Loop`).
use Rattle.std.proofs.Common.{rules, ◌≡◌, ◌-◌, ◌≤◌, ◌<◌, false, true, length, arith}
use borrow.Rule.Slice.PartMut.{put_mid}
use Rattle.lanes.specs.Loop.{Ran}
use Rattle.lanes.proofs.Loop.{Came, ends, came, led_none, sends_fit, leads, led_next, served, ran}
use Rattle.lanes.proofs.stream.run.Given as given
use Rattle.lanes.proofs.stream.run.Goals.{After-turn-t}
use Rattle.lanes.proofs.stream.run.Goals as goal

-- what the read of this turn brought
read_came : (g : given.Over) (c : After-turn-t g) → Came
    (record { desk = c.loop-turn.desk; words = c.loop-turn.cells; bytes = c.loop-turn.bytes; answers = c.loop-turn.answers })
    (g.R.Read.remaining c.loop-turn.input)
    (put_mid c.loop-turn.desk.left (10009 - c.loop-turn.desk.left) c.loop-turn.bytes c.read-read.new.buf)
    c.unwrap_or-got.result.now (g.R.Read.remaining c.read-read.new.self)
read_came g c = came c.read-read.result _ _ _ _ _ _ (search rules) (search rules) c.read-read.ensures.bound c.read-read.ensures.bytes

-- so the loop may end behind this turn
ran_here : (g : given.Over) (c : After-turn-t g)
    → Ran c.args.bytes.now c.args.answers.now c.turn-t.new.cells c.turn-t.new.bytes c.turn-t.new.answers
ran_here g c = ran c.turn-t.result (leads c.loop-turn.invariant (read_came g c) _ c.turn-t.ensures)

pub loop-turn-init : goal.loop-turn-init
loop-turn-init g c = led_none _ _ _ _ _ _ c.fresh-desk.ensures c.words.ensures

pub shared_ref_as_front-write_all : goal.shared_ref_as_front-write_all
shared_ref_as_front-write_all g c =
    let came = read_came g (goal.at.shared_ref_as_front-write_all g c).After-turn-t in
    let h : c.turn-t.result.written ≤ length c.turn-t.new.answers = sends_fit c.loop-turn.invariant came _ c.turn-t.ensures in
    omega arith

pub returns-in_err-write_all-clause-ran : goal.returns-in_err-write_all-clause-ran
returns-in_err-write_all-clause-ran g c = ran_here g (goal.at.returns-in_err-write_all-clause-ran g c).After-turn-t

pub returns-in_err-read-clause-ran : goal.returns-in_err-read-clause-ran
returns-in_err-read-clause-ran g c = ran_here g (goal.at.returns-in_err-read-clause-ran g c).After-turn-t

pub returns-then-not-t-clause-ran : goal.returns-then-not-t-clause-ran
returns-then-not-t-clause-ran g c = ran_here g (goal.at.returns-then-not-t-clause-ran g c).After-turn-t

pub returns-then-not-t-clause-served : goal.returns-then-not-t-clause-served
returns-then-not-t-clause-served g c =
    let came = read_came g (goal.at.returns-then-not-t-clause-served g c).After-turn-t in
    let last : c.turn-t.result.more ≡ false = search rules in
    let some : 0 < length c.read-read.new.buf = search rules in
    served c.loop-turn.invariant came _ c.turn-t.ensures _ last
    (ends c.read-read.result _ _ _ _ c.in_ok-read.was some (search rules) c.read-read.ensures.bytes)
    c.in_ok-write_all.ensures.bytes

pub loop-turn-preserved : goal.loop-turn-preserved
loop-turn-preserved g c =
    let came = read_came g (goal.at.loop-turn-preserved g c).After-turn-t in
    let more : c.turn-t.result.more ≡ true = search rules in
    led_next c.loop-turn.invariant came _ c.turn-t.ensures more c.in_ok-write_all.ensures.bytes

pub returns-clause-ran : goal.returns-clause-ran
returns-clause-ran g c = let t = c.loop-turn.invariant.reached (search rules) in ran t.0 t.1
