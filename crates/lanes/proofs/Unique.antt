-- The contracts determine the record, every lent word and byte, how far it got and why it stopped: what a function hands back is the
-- only thing that meets its contract.
-- Assumes nothing.
use Prim.Native.Nat.{ℕ}
use mathlib.Core.Path.{◌≡◌, sym, ap, ◌∙◌}
use mathlib.Core.List.{List}
use Rattle.records.specs.declared.Call.{Call}
use Rattle.steps.specs.Store.{Store}
use Rattle.steps.specs.declared.Answered.{Answered}
use Rattle.steps.specs.Step.{outcome, step}
use Rattle.steps.proofs.Unique.{unique}
use Rattle.lanes.specs.declared.Served.{Served}
use Rattle.lanes.specs.declared.Desk.{Desk}
use Rattle.lanes.specs.declared.Turned.{Turned}
use Rattle.lanes.specs.Serve.{Serving, serving, serve_into}
use Rattle.lanes.specs.Desk.{TurnedIn, turned_in, turn_into}

pub call_unique : (st : Store) (call : Call) (r s : Answered) (us vs : List ℕ)
    → outcome r us ≡ step st call → outcome s vs ≡ step st call → (r ≡ s) × (us ≡ vs)
call_unique = unique

pub serve_unique : (st : Store) (bytes answers : List ℕ) (r s : Served) (us vs xs ys : List ℕ)
    → serving r us xs ≡ serve_into st bytes answers → serving s vs ys ≡ serve_into st bytes answers
    → (r ≡ s) × (us ≡ vs) × (xs ≡ ys)
serve_unique st bytes answers r s us vs xs ys e f =
    let same : serving r us xs ≡ serving s vs ys = e ∙ sym f in (
      λ i. record { board = (same i).store.board; taken = (same i).taken; written = (same i).written; stop = (same i).stop },
      ap (λ (o : Serving). o.store.words) same,
      ap (λ (o : Serving). o.answers) same,
    )

pub turn_unique : (d : Desk) (ws bytes : List ℕ) (got : ℕ) (answers : List ℕ) (r s : Turned) (us vs is js xs ys : List ℕ)
    → turned_in r us is xs ≡ turn_into d ws bytes got answers → turned_in s vs js ys ≡ turn_into d ws bytes got answers
    → (r ≡ s) × (us ≡ vs) × (is ≡ js) × (xs ≡ ys)
turn_unique d ws bytes got answers r s us vs is js xs ys e f =
    let same : turned_in r us is xs ≡ turned_in s vs js ys = e ∙ sym f in (
      ap (λ (o : TurnedIn). o.turned) same,
      ap (λ (o : TurnedIn). o.words) same,
      ap (λ (o : TurnedIn). o.bytes) same,
      ap (λ (o : TurnedIn). o.answers) same,
    )
