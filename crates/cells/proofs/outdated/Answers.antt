use borrow.Author.Rules.{rules}
use mathlib.Core.Path.{◌≡◌, refl, sym, ◌∙◌}
use mathlib.Core.Bool.{true, false}
use lib.ListN.{get_or}
use Rattle.cells.specs.Cells.{cells_of, no_cell}
use Rattle.cells.specs.Rules.{newer}
use Rattle.cells.proofs.Scan.{has_here, has_next, has_end}
use Rattle.cells.proofs.outdated.Goals as goal

pub loop-i-init : goal.loop-i-init
loop-i-init c = refl

pub returns-then-newer : goal.returns-then-newer
returns-then-newer c =
    let s = c.args in
    let e : newer s.c (get_or (cells_of s.cells.now) c.loop-i.i no_cell) ≡ true = cc in
    sym (c.loop-i.invariant ∙ has_here s.cells.now c.loop-i.i (search rules) _ e)

pub loop-i-preserved : goal.loop-i-preserved
loop-i-preserved c =
    let s = c.args in
    let e : newer s.c (get_or (cells_of s.cells.now) c.loop-i.i no_cell) ≡ false = cc in
    c.loop-i.invariant ∙ has_next s.cells.now c.loop-i.i (search rules) _ e

pub returns : goal.returns
returns c = sym (c.loop-i.invariant ∙ has_end _ c.loop-i.i (search rules) _)
