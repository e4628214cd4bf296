use borrow.Author.Rules.{rules}
use native.Mathlib.Omega.{arith}
use mathlib.Core.Path.{◌≡◌, sym, ap, ◌∙◌}
use Prim.Native.Nat.{◌+◌, ◌<◌}
use lib.ListN.{length, drop}
use Rattle.cells.specs.declared.Cell.{Cell}
use Rattle.cells.specs.declared.Looked.{Looked}
use Rattle.cells.specs.Cells.{cells_of, of_key}
use Rattle.cells.specs.Search.{look_turn, look_from}
use Rattle.cells.proofs.Words.{length_cells}
use Rattle.cells.proofs.Looks.{look_skip, look_here, look_end, look_is, look_last}
use Rattle.cells.proofs.look.Goals as goal

pub returns-in_default : goal.returns-in_default
returns-in_default c =
    let s = c.args in
    c.none-seen.ensures ∙ look_last s.key s.number s.view s.cells.now (search rules) (λ k. search rules)

pub loop-at-preserved : goal.loop-at-preserved
loop-at-preserved c =
    let l = c.loop-at in
    let s = c.args in
    let cs = cells_of s.cells.now in
    let at = c.in-Some-next.at in
    let same : c.in-Some.word ≡ s.key + 1 = search rules in
    let told = c.in-Some-next.ensures.first (of_key s.key) (λ d t e. search (rules, same)) in
    let inside : at < length cs = omega (arith, length_cells s.cells.now, c.in-Some-next.ensures.inside.1) in
    let turned = ap (λ (d : Cell). look_turn s.number s.view at d l.seen) (sym c.cell_at.ensures) in
    l.invariant
    ∙ look_skip s.key s.number s.view l.seen cs l.from at told
    ∙ look_here s.key s.number s.view l.seen s.cells.now at (search rules) (told.found inside)
    ∙ ap (λ (x : Looked). look_from s.key s.number s.view (at + 1) x (drop (at + 1) cs)) (turned ∙ sym c.with-seen.ensures)

pub returns : goal.returns
returns c =
    let l = c.loop-at in
    let s = c.args in
    let cs = cells_of s.cells.now in
    let same : c.in-Some.word ≡ s.key + 1 = search rules in
    let told = c.in_default-next.ensures.first (of_key s.key) (λ d t e. search (rules, same)) in
    sym (sym (look_is s.key s.number s.view cs)
    ∙ l.invariant
    ∙ look_skip s.key s.number s.view l.seen cs l.from _ told
    ∙ look_end s.key s.number s.view l.seen s.cells.now _ (omega (arith, length_cells s.cells.now)))
