use borrow.Author.Rules.{rules}
use borrow.Author.Tests.{le-leb, lt-leb}
use mathlib.Core.Path.{◌≡◌, refl, sym, ap, ◌∙◌}
use mathlib.Core.Bool.{Bool, true, false, cond}
use mathlib.Core.List.{List, ◌∷◌}
use Prim.Native.Nat.{ℕ, ◌+◌, ◌/◌, ◌<◌}
use lib.ListN.{length, get_or, drop}
use Rattle.cells.specs.declared.Cell.{Cell}
use Rattle.cells.specs.Cells.{no_cell, cells_of}
use Rattle.cells.specs.Tables.{tops_of, any_cell, up_to, raised}
use Rattle.cells.proofs.Scan.{cells_next, cells_end}
use Rattle.cells.proofs.Tables.{tops_next, tops_end, uncommitted_leaves}
use Rattle.cells.proofs.tops_of.Goals as goal

-- the cell that a turn reads is the first of those left
turn : (ws : List ℕ) (i : ℕ) {c : Cell} → i < length ws / 4 → c ≡ get_or (cells_of ws) i no_cell
    → drop i (cells_of ws) ≡ c ∷ drop (i + 1) (cells_of ws)
turn ws i h e = cells_next ws i h ∙ ap (λ (x : Cell). x ∷ drop (i + 1) (cells_of ws)) (sym e)

pub loop-i-init : goal.loop-i-init
unfolding tops_of
loop-i-init c = record { all = refl; seen = refl }

pub loop-i-preserved-then-c-eq0 : goal.loop-i-preserved-then-c-eq0
loop-i-preserved-then-c-eq0 c =
    let l = c.loop-i in
    let x = c.cell_at-c.result in
    let none : x.commit ≡ 0 = c.if-c-eq0.true in
    let next = turn c.args.cells.now l.i (search rules) c.cell_at-c.ensures in
    record {
      all = l.invariant.all ∙ tops_next any_cell l.all _ x _ next l.all (uncommitted_leaves any_cell l.all x none);
      seen = l.invariant.seen ∙ tops_next (up_to c.args.view) l.seen _ x _ next l.seen (uncommitted_leaves (up_to c.args.view) l.seen x none);
    }

pub loop-i-preserved-then-view-c : goal.loop-i-preserved-then-view-c
loop-i-preserved-then-view-c c =
    let l = c.loop-i in
    let x = c.cell_at-c.result in
    let view = c.args.view in
    let next = turn c.args.cells.now l.i (search rules) c.cell_at-c.ensures in
    let e : up_to view x ≡ false = lt-leb x.commit view (search rules) in
    record {
      all = l.invariant.all ∙ tops_next any_cell l.all _ x _ next _ c.raise.ensures;
      seen =
          l.invariant.seen
          ∙ tops_next (up_to view) l.seen _ x _ next l.seen (sym (ap (λ (b : Bool). cond b (raised l.seen x.word x.commit) l.seen) e));
    }

pub loop-i-preserved : goal.loop-i-preserved
loop-i-preserved c =
    let l = c.loop-i in
    let x = c.cell_at-c.result in
    let view = c.args.view in
    let next = turn c.args.cells.now l.i (search rules) c.cell_at-c.ensures in
    let e : up_to view x ≡ true = le-leb x.commit view (search rules) in
    record {
      all = l.invariant.all ∙ tops_next any_cell l.all _ x _ next _ c.raise.ensures;
      seen =
          l.invariant.seen
          ∙ tops_next (up_to view) l.seen _ x _ next _
          (c.raise-in-loop-i.ensures ∙ sym (ap (λ (b : Bool). cond b (raised l.seen x.word x.commit) l.seen) e));
    }

pub returns : goal.returns
returns c =
    let l = c.loop-i in
    let none = cells_end c.args.cells.now l.i (search rules) in
    let all = sym (l.invariant.all ∙ tops_end any_cell l.all _ none) in
    let seen = sym (l.invariant.seen ∙ tops_end (up_to c.args.view) l.seen _ none) in
    λ k. record { all = all k; seen = seen k }
