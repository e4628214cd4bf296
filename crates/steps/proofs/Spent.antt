-- The search for a cell to write in, and for a prepared writer.
--     place_turn, place_end   a scan of the places for one that passes a test
--     and_is                  two tests in one
--     free_is                 whether a cell is empty or spent, by four tests
-- Assumes nothing.
use mathlib.Core.Path.{◌≡◌, refl, ap}
use mathlib.Core.Bool.{Bool, false, not, ◌&&◌, ◌||◌}
use mathlib.Core.List.{List, [], ◌∷◌}
use Rattle.std.specs.List.{list_any}
use Prim.Native.Nat.{ℕ, ◌+◌, ◌≤◌, ◌<◌}
use lib.ListN.{length, get_or, drop, drop_of_length-le}
use Rattle.cells.specs.declared.Cell.{Cell}
use Rattle.cells.specs.Cells.{empty, committed}
use Rattle.cells.specs.Rules.{has_cell, newer}
use Rattle.cells.proofs.Laws.{drop_next}
use Rattle.steps.specs.declared.Place.{Place}
use Rattle.steps.specs.Record.{idle_place}
use Rattle.steps.specs.Spent.{has_place, keeps_at, free}

pub has_is_any : (q : Place → Bool) (ps : List Place) → list_any q ps ≡ has_place q ps
unfolding has_place
has_is_any q [] = refl
has_is_any q (p ∷ ps) = ap (λ (b : Bool). q p || b) (has_is_any q ps)

module _ (q : Place → Bool) (ps : List Place) (j : ℕ) where
  pub place_turn : j < length ps → {t : Bool} → q (get_or ps j idle_place) ≡ t
      → has_place q (drop j ps) ≡ (t || has_place q (drop (j + 1) ps))
  unfolding has_place
  place_turn h e = rw (drop_next ps j idle_place, e)

  pub place_end : length ps ≤ j → has_place q (drop j ps) ≡ false
  unfolding has_place
  place_end h = rw (drop_of_length-le ps h)

pub and_is : {x y s t : Bool} → x ≡ s → y ≡ t → (x && y) ≡ (s && t)
and_is e f = λ j. e j && f j

pub free_is : (ps : List Place) (cs : List Cell) (c : Cell) {e b o h : Bool} → empty c ≡ e → committed c ≡ b
    → has_cell (newer c) cs ≡ o → has_place (keeps_at cs c) ps ≡ h → free ps cs c ≡ (e || (b && o && not h))
free_is ps cs c p q r s = λ j. p j || (q j && r j && not (s j))
