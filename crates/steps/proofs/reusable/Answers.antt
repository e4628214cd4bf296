-- `reusable` meets its contract. Outer invariant: the lowest free cell is the lowest of those yet to be looked at.
-- Inner invariant: a place that keeps the cell is one of those yet to be looked at. The tables settle most cells before it.
-- Assumes nothing.
use mathlib.Core.Path.{◌≡◌, refl, sym, ap, ◌∙◌}
use mathlib.Core.Bool.{Bool, true, false, not, true≢false}
use mathlib.Core.List.{List}
use Prim.Native.Nat.{ℕ, ◌+◌, ◌/◌, ◌<◌}
use native.Mathlib.Omega.{arith}
use borrow.Author.Rules.{rules}
use borrow.Author.Tests.{tests}
use lib.Dec.{ltb}
use lib.ListN.{length, get_or, drop}
use Rattle.std.specs.Prelude.{Option, Some, None, MatchOption}
use Rattle.std.specs.Option.{unwrap_or}
use Rattle.cells.specs.declared.Tops.{Tops}
use Rattle.cells.specs.declared.Cell.{Cell}
use Rattle.cells.specs.Cells.{no_cell, cells_of, empty, committed}
use Rattle.cells.specs.Rules.{lowest_from, has_cell, between, keeps}
use Rattle.cells.specs.Tables.{all_tops, any_cell, up_to, tops_of, outdated_by, surpassed_in, held_in}
use Rattle.cells.proofs.Scan.{lowest_here, lowest_next, lowest_end}
use Rattle.cells.proofs.Tables.{tables_tell}
use Rattle.steps.specs.declared.Place.{Place}
use Rattle.steps.specs.Record.{all_places}
use Rattle.steps.specs.Spent.{has_place, keeps_at, free, reusable}
use Rattle.steps.proofs.Spent.{place_turn, place_end, and_is, free_is}
use Rattle.steps.proofs.Tests.{and_right}
use Rattle.steps.proofs.Quick.{past_least, kept_least}
use Rattle.steps.proofs.reusable.Goals as goal

-- at a cell that is read: whether it is free settles the turn
module _ (ws : List ℕ) (ps : List Place) {i : ℕ} {c : Cell} (h : i < length ws / 4) (e : c ≡ get_or (cells_of ws) i no_cell)
    (left : reusable ps (cells_of ws) ≡ lowest_from i (free ps (cells_of ws)) (drop i (cells_of ws))) where
  here : free ps (cells_of ws) c ≡ true → Some i ≡ reusable ps (cells_of ws)
  here f = sym (left ∙ lowest_here ws i h (free ps (cells_of ws)) (sym (ap (free ps (cells_of ws)) e) ∙ f))

  next : free ps (cells_of ws) c ≡ false
      → reusable ps (cells_of ws) ≡ lowest_from (i + 1) (free ps (cells_of ws)) (drop (i + 1) (cells_of ws))
  next f = left ∙ lowest_next ws i h (free ps (cells_of ws)) (sym (ap (free ps (cells_of ws)) e) ∙ f)

-- at a cell that is committed and has a newer one, by the table of all cells: it is free if no place keeps it
kept_or_free : (ps : List Place) (cs : List Cell) (x : Cell) (view : ℕ) (tops : Tops) {e b o k : Bool}
    → tops ≡ record { all = tops_of any_cell cs; seen = tops_of (up_to view) cs }
    → e ≡ empty x → e ≡ false → b ≡ committed x → b ≡ true → o ≡ outdated_by tops.all cs x → o ≡ true
    → has_place (keeps_at cs x) ps ≡ k → free ps cs x ≡ not k
kept_or_free ps cs x view tops made empty_is filled committed_is sealed outdated_is old kept =
    let told = ap (λ (t : Tops). outdated_by t.all cs x) made in
    let f = sym empty_is ∙ filled in
    free_is ps cs x f (sym committed_is ∙ sealed) (sym (tables_tell cs x f).outdated ∙ sym told ∙ sym outdated_is ∙ old) kept

-- what `is_some_and` tells where it answers true
some_and : (t : ℕ → Bool) (o : Option ℕ) {r : Bool} {Q : ℕ → Type 0} → MatchOption o (r ≡ false) Q → ((v : ℕ) → Q v → r ≡ t v) → r ≡ true
    → (v : ℕ) × ((o ≡ Some v) × (t v ≡ true))
some_and t (Some v) m f e = (v, (refl, sym (f v m) ∙ e))
some_and t None m f e = absurd (true≢false (sym e ∙ m))

pub cells-init : goal.cells-init
unfolding reusable
cells-init c = refl

pub returns-then-empty : goal.returns-then-empty
returns-then-empty c =
    let a = c.args in
    let e = sym c.«empty».ensures ∙ c.if-empty.true in
    here a.cells.now a.places (search rules) c.cell_at-c.ensures c.cells.invariant
    (free_is a.places (cells_of a.cells.now) c.cell_at-c.result e refl refl refl)

pub cells-preserved-then-not-committed : goal.cells-preserved-then-not-committed
cells-preserved-then-not-committed c =
    let a = c.args in
    let e = sym c.«empty».ensures ∙ c.if-empty.false in
    let f = sym c.committed.ensures ∙ c.if-not-committed.true in
    next a.cells.now a.places (search rules) c.cell_at-c.ensures c.cells.invariant
    (free_is a.places (cells_of a.cells.now) c.cell_at-c.result e f refl refl)

pub cells-preserved-then-not-outdated_by : goal.cells-preserved-then-not-outdated_by
cells-preserved-then-not-outdated_by c =
    let a = c.args in
    let cs = cells_of a.cells.now in
    let x = c.cell_at-c.result in
    let e = sym c.«empty».ensures ∙ c.if-empty.false in
    let f = sym c.committed.ensures ∙ c.if-not-committed.false in
    let told = ap (λ (t : Tops). outdated_by t.all cs x) c.tops_of-tops.ensures in
    let g = sym (tables_tell cs x e).outdated ∙ sym told ∙ sym c.outdated_by.ensures ∙ c.if-not-outdated_by.true in
    next a.cells.now a.places (search rules) c.cell_at-c.ensures c.cells.invariant
    (free_is a.places cs x e f g refl)

pub returns-then-surpassed : goal.returns-then-surpassed
returns-then-surpassed c =
    let a = c.args in
    let cs = cells_of a.cells.now in
    let x = c.cell_at-c.result in
    let filled : empty x ≡ false = sym c.«empty».ensures ∙ c.if-empty.false in
    let o = c.oldest_view-oldest in
    let view = c.unwrap_or.result in
    let told = ap (λ (t : Tops). surpassed_in t.seen x) c.tops_of-tops.ensures in
    let e = sym told ∙ sym c.surpassed.ensures ∙ c.if-surpassed.true in
    let past = and_right (ltb x.word all_tops) (has_cell (between x view) cs) (sym ((tables_tell cs x filled).surpassed view) ∙ e) in
    let past_oldest = ap (λ (v : ℕ). has_cell (between x v) cs) (sym c.unwrap_or.ensures) ∙ past in
    here a.cells.now a.places (search rules) c.cell_at-c.ensures c.cells.invariant
    (kept_or_free a.places cs x _ c.tops_of-tops.result c.tops_of-tops.ensures c.«empty».ensures c.if-empty.false
    c.committed.ensures c.if-not-committed.false c.outdated_by.ensures c.if-not-outdated_by.false
    (past_least a.places (search rules) cs x o.result past_oldest (sym o.ensures)))

pub cells-preserved-then-is_some_and : goal.cells-preserved-then-is_some_and
cells-preserved-then-is_some_and c =
    let a = c.args in
    let cs = cells_of a.cells.now in
    let x = c.cell_at-c.result in
    let filled : empty x ≡ false = sym c.«empty».ensures ∙ c.if-empty.false in
    let o = c.oldest_view-oldest in
    let s = some_and (held_in c.tops_of-tops.result.seen x) o.result c.is_some_and.ensures (λ v k. search (rules, tests)) c.if-is_some_and.true in
    let view = s.0 in
    let same = c.unwrap_or.ensures ∙ ap (λ (o : Option ℕ). unwrap_or o 0) s.1.0 in
    let told = ap (λ (t : Tops). held_in t.seen x view) c.tops_of-tops.ensures ∙ ap (λ (v : ℕ). held_in (tops_of (up_to v) cs) x view) same in
    let held = and_right (ltb x.word all_tops) (keeps cs x view) (sym ((tables_tell cs x filled).held view) ∙ sym told ∙ s.1.1) in
    next a.cells.now a.places (search rules) c.cell_at-c.ensures c.cells.invariant
    (kept_or_free a.places cs x _ c.tops_of-tops.result c.tops_of-tops.ensures c.«empty».ensures c.if-empty.false
    c.committed.ensures c.if-not-committed.false c.outdated_by.ensures c.if-not-outdated_by.false
    (kept_least a.places (search rules) cs x view (sym o.ensures ∙ s.1.0) held))

pub places-init : goal.places-init
places-init c = refl

pub places-preserved-then-not-is_open : goal.places-preserved-then-not-is_open
places-preserved-then-not-is_open c =
    let a = c.args in
    let h : length a.places ≡ all_places = search rules in
    let q = keeps_at (cells_of a.cells.now) c.cell_at-c.result in
    let e = sym c.is_open.ensures ∙ c.if-not-is_open.true in
    c.places.invariant ∙ place_turn q a.places c.places.p-index (omega arith) (and_is e refl)

pub cells-preserved : goal.cells-preserved
cells-preserved c =
    let a = c.args in
    let cs = cells_of a.cells.now in
    let x = c.cell_at-c.result in
    let h : length a.places ≡ all_places = search rules in
    let q = keeps_at cs x in
    let is_open = sym c.is_open.ensures ∙ c.if-not-is_open.false in
    let e = and_is is_open (sym c.kept.ensures ∙ c.if-kept.true) in
    let f = c.places.invariant ∙ place_turn q a.places c.places.p-index (omega arith) e in
    next a.cells.now a.places (search rules) c.cell_at-c.ensures c.cells.invariant
    (kept_or_free a.places cs x _ c.tops_of-tops.result c.tops_of-tops.ensures c.«empty».ensures c.if-empty.false
    c.committed.ensures c.if-not-committed.false c.outdated_by.ensures c.if-not-outdated_by.false f)

pub places-preserved : goal.places-preserved
places-preserved c =
    let a = c.args in
    let h : length a.places ≡ all_places = search rules in
    let q = keeps_at (cells_of a.cells.now) c.cell_at-c.result in
    let is_open = sym c.is_open.ensures ∙ c.if-not-is_open.false in
    let e = and_is is_open (sym c.kept.ensures ∙ c.if-kept.false) in
    c.places.invariant ∙ place_turn q a.places c.places.p-index (omega arith) e

pub returns-in-cells : goal.returns-in-cells
returns-in-cells c =
    let a = c.args in
    let cs = cells_of a.cells.now in
    let x = c.cell_at-c.result in
    let h : length a.places ≡ all_places = search rules in
    let q = keeps_at cs x in
    let none = c.places.invariant ∙ place_end q a.places c.places.p-index (omega arith) in
    here a.cells.now a.places (search rules) c.cell_at-c.ensures c.cells.invariant
    (kept_or_free a.places cs x _ c.tops_of-tops.result c.tops_of-tops.ensures c.«empty».ensures c.if-empty.false
    c.committed.ensures c.if-not-committed.false c.outdated_by.ensures c.if-not-outdated_by.false none)

pub returns : goal.returns
returns c =
    let a = c.args in
    let l = c.cells in
    sym (l.invariant ∙ lowest_end a.cells.now l.at (search rules) (free a.places (cells_of a.cells.now)))
