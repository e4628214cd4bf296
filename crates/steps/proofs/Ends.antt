-- The ways in which a read and an update end: what the contracts below gave on the way there, and what the step comes to.
-- Assumes nothing.
use Rattle.std.specs.Prelude.{Option, Some, None, Ok, Err}
use mathlib.Core.Path.{◌≡◌, sym, ap, ◌∙◌}
use mathlib.Core.Bool.{Bool, true, false}
use mathlib.Core.List.{List}
use Prim.Native.Nat.{ℕ}
use lib.ListN.{get_or, set}
use Rattle.records.specs.declared.Refusal.{Refusal}
use Rattle.cells.specs.declared.Cell.{Cell}
use Rattle.cells.specs.declared.Looked.{Looked}
use Rattle.cells.specs.Cells.{no_cell, with_cells}
use Rattle.cells.specs.Rules.{own_at, look_of, newest_seen, conflict, valued}
use Rattle.steps.specs.declared.Answered.{Answered}
use Rattle.steps.specs.declared.Board.{Board}
use Rattle.steps.specs.Record.{lost_board}
use Rattle.steps.specs.Spent.{held_back}
use Rattle.steps.specs.Store.{Store, Outcome, lent, cells_in, answered}
use Rattle.steps.specs.Step.{outcome, number_at, view_at, shown_at, written, updated_as}

-- what a look finds for the transaction at a place, and whether its key is held back there
abbrev pub looked_at : Board → ℕ → List Cell → ℕ → Looked
looked_at b key cs p = look_of key (number_at b p) (view_at b p) cs

abbrev pub held_at : Board → ℕ → List Cell → ℕ → Bool
held_at b key cs p = held_back key (number_at b p) b.places cs

-- the own cell that a look found, or that there is none
pub looked_own : (key number view : ℕ) (cs : List Cell) {l : Looked} {f : Option ℕ} → l ≡ look_of key number view cs → l.own ≡ f
    → own_at key number cs ≡ f
looked_own key number view cs e g = sym (ap (λ (l : Looked). l.own) e) ∙ g

module _ (st : Store) (p key : ℕ) where
  abbrev b : Board
  b = st.board

  abbrev cs : List Cell
  cs = cells_in st

  abbrev mine : Option ℕ
  mine = own_at key (number_at b p) cs

  -- OK, with other words
  abbrev stored : List ℕ → Outcome
  stored v = answered (Ok 0) (lent b v)

  abbrev held : Bool
  held = held_back key (number_at b p) b.places cs

  pub read_own : {i : ℕ} {x : Cell} → mine ≡ Some i → x ≡ get_or cs i no_cell → Ok x.value ≡ shown_at st p key
  unfolding shown_at
  read_own e f = ap (λ (x : Cell). Ok x.value) f ∙ rw e

  pub read_held : mine ≡ None → held ≡ true → Err Refusal.Prepared ≡ shown_at st p key
  unfolding shown_at
  read_held e f = rw (e, f)

  pub read_seen : {x : Cell} → mine ≡ None → held ≡ false → x ≡ newest_seen key (view_at b p) cs
      → Ok x.value ≡ shown_at st p key
  unfolding shown_at
  read_seen e f g = ap (λ (x : Cell). Ok x.value) g ∙ rw (e, f)

  module _ (value : ℕ) where
    pub update_own : {i : ℕ} {x y : Cell} {v : List ℕ} {r : Answered} → mine ≡ Some i → x ≡ get_or cs i no_cell → y ≡ valued value x
        → v ≡ with_cells st.words (set cs i y) → r ≡ record { answer = Ok 0; board = b } → outcome r v ≡ updated_as st p key value
    unfolding updated_as
    update_own {i} {v = v} e f g h w =
        ap (λ (r : Answered). outcome r v) w
        ∙ ap stored (h ∙ ap (λ (x : Cell). with_cells st.words (set cs i x)) (g ∙ ap (valued value) f))
        ∙ rw e

    module _ (e : mine ≡ None) where
      pub update_clash : {r : Answered} → conflict key (number_at b p) (view_at b p) cs ≡ true
          → r ≡ record { answer = Err Refusal.Conflict; board = lost_board b p } → outcome r st.words ≡ updated_as st p key value
      unfolding updated_as
      update_clash f w = ap (λ (r : Answered). outcome r st.words) w ∙ rw (e, f)

      pub update_new : {o : Outcome} → conflict key (number_at b p) (view_at b p) cs ≡ false → o ≡ written st (number_at b p) key value
          → o ≡ updated_as st p key value
      unfolding updated_as
      update_new f g = g ∙ rw (e, f)
