-- The rules' tests of a cell, as equations and orders of its words, and back.
-- Assumes nothing.
use Rattle.std.specs.Prelude.{Some, None}
use mathlib.Core.Path.{◌≡◌, refl, sym, ap, ◌∙◌}
use mathlib.Core.Logic.{◌⊎◌, inl, inr}
use mathlib.Core.Bool.{Bool, true, false, not, ◌&&◌}
use mathlib.Core.List.{List, [], ◌∷◌}
use Prim.Native.Nat.{ℕ, zero, suc, ◌+◌, ◌≤◌, ◌<◌}
use native.Mathlib.Omega.{arith}
use lib.Dec.{leb, ltb, eqb}
use lib.ListN.{length, get_or}
use borrow.Author.Tests.{ltb-true, leb-true, eqb-true, eqb-false, not-true, lt-ltb, le-leb, eq-eqb, ne_eqb}
use Rattle.cells.specs.declared.Cell.{Cell}
use Rattle.cells.specs.Cells.{no_cell, empty, of_key, committed, own, foreign, seen_by}
use Rattle.cells.specs.Rules.{pick_cell, has_cell, mine, own_at, visible, clashes, blocks, newer, between}
use Rattle.cells.proofs.Meaning.{own_found, own_none}
use Rattle.steps.specs.declared.Place.{Place}
use Rattle.steps.specs.Spent.{has_place, keeps_at, spent}
use Rattle.steps.proofs.Tests.{and_both as both, and_left, and_right}
use Rattle.history.specs.History.{version_of}
use Rattle.history.proofs.Basics.{cases, clash, or_cases, or_left, or_right}

and_assoc : (a b c : Bool) → ((a && b) && c) ≡ (a && (b && c))
and_assoc true b c = refl
and_assoc false b c = refl

abbrev pub cell_at : List Cell → ℕ → Cell
cell_at cs i = get_or cs i no_cell

-- what a choice by a test comes to
pub pick_true : {t : Bool} (c d : Cell) → t ≡ true → pick_cell t c d ≡ c
pick_true c d e = ap (λ (u : Bool). pick_cell u c d) e

pub pick_false : {t : Bool} (c d : Cell) → t ≡ false → pick_cell t c d ≡ d
pick_false c d e = ap (λ (u : Bool). pick_cell u c d) e

-- the cell carries the unfinished write of transaction t to key k
pub record Draft (c : Cell) (t k : ℕ) : Type 0 where
  pub word : c.word ≡ k + 1
  pub commit : c.commit ≡ 0
  pub number : c.number ≡ t

-- the cell carries the write of the committed transaction m to key k
pub record Version (c : Cell) (m k : ℕ) : Type 0 where
  pub word : c.word ≡ k + 1
  pub commit : c.commit ≡ m + 1

-- a cell of a key stands in the list
pub in_cells : (l : List Cell) (i k : ℕ) → (cell_at l i).word ≡ k + 1 → i < length l
in_cells [] i k e = absurd (omega arith)
in_cells (c ∷ cs) zero k e = omega arith
in_cells (c ∷ cs) (suc i) k e = let h = in_cells cs i k e in omega arith

module _ (c : Cell) where
  pub not_empty : (k : ℕ) → c.word ≡ k + 1 → not (empty c) ≡ true
  not_empty k e = ap not (ne_eqb c.word 0 (λ z. omega arith))

  -- OWN
  pub own_facts : (t : ℕ) → own t c ≡ true → (c.commit ≡ 0) × (c.number ≡ t)
  own_facts t e = (
    eqb-true _ _ (and_right (not (empty c)) (eqb c.commit 0) (and_left (not (empty c) && eqb c.commit 0) (eqb c.number t) e)),
    eqb-true _ _ (and_right (not (empty c) && eqb c.commit 0) (eqb c.number t) e),
  )

  pub draft_own : (t k : ℕ) → Draft c t k → own t c ≡ true
  draft_own t k d = both (both (not_empty k d.word) (eq-eqb _ _ d.commit)) (eq-eqb _ _ d.number)

  pub mine_draft : (t k : ℕ) → mine k t c ≡ true → Draft c t k
  mine_draft t k e =
      let o = own_facts t (and_right (of_key k c) (own t c) e) in
      record { word = eqb-true _ _ (and_left (of_key k c) (own t c) e); commit = o.0; number = o.1 }

  pub draft_mine : (t k : ℕ) → Draft c t k → mine k t c ≡ true
  draft_mine t k d = both (eq-eqb _ _ d.word) (draft_own t k d)

  -- FOREIGN
  pub foreign_facts : (t : ℕ) → foreign t c ≡ true → (c.commit ≡ 0) × (c.number ≡ t → ⊥)
  foreign_facts t e = (
    eqb-true _ _
        (and_right (not (empty c)) (eqb c.commit 0) (and_left (not (empty c) && eqb c.commit 0) (not (eqb c.number t)) e)),
    eqb-false _ _ (not-true _ (and_right (not (empty c) && eqb c.commit 0) (not (eqb c.number t)) e)),
  )

  pub foreign_of_lem : (t u k : ℕ) → Draft c u k → (u ≡ t → ⊥) → foreign t c ≡ true
  foreign_of_lem t u k d n =
      both (both (not_empty k d.word) (eq-eqb _ _ d.commit)) (ap not (ne_eqb _ _ (λ e. n (sym d.number ∙ e))))

  -- COMMITTED
  pub committed_of : (k : ℕ) → c.word ≡ k + 1 → 0 < c.commit → committed c ≡ true
  committed_of k e h = both (not_empty k e) (lt-ltb _ _ h)

  pub version_facts : (k : ℕ) → version_of k c ≡ true → (c.word ≡ k + 1) × (0 < c.commit)
  version_facts k e = (
    eqb-true _ _ (and_left (of_key k c) (committed c) e),
    ltb-true _ _ (and_right (not (empty c)) (ltb 0 c.commit) (and_right (of_key k c) (committed c) e)),
  )

  -- no view sees what is no committed cell of the key
  pub not_visible : (k w : ℕ) → version_of k c ≡ false → visible k w c ≡ false
  not_visible k w e = sym (and_assoc (of_key k c) (committed c) (leb c.commit w)) ∙ rw e

  pub visible_facts : (k w : ℕ) → visible k w c ≡ true → (c.word ≡ k + 1) × (0 < c.commit) × (c.commit ≤ w)
  visible_facts k w e =
      let s = and_right (of_key k c) (seen_by w c) e in (
        eqb-true _ _ (and_left (of_key k c) (seen_by w c) e),
        ltb-true _ _ (and_right (not (empty c)) (ltb 0 c.commit) (and_left (committed c) (leb c.commit w) s)),
        leb-true _ _ (and_right (committed c) (leb c.commit w) s),
      )

  pub visible_of : (k w : ℕ) → c.word ≡ k + 1 → 0 < c.commit → c.commit ≤ w → visible k w c ≡ true
  visible_of k w e h l = both (eq-eqb _ _ e) (both (committed_of k e h) (le-leb _ _ l))

  -- IN THE WAY
  pub blocks_facts : (k t w : ℕ) → blocks k t w c ≡ true
      → (c.word ≡ k + 1) × (((c.commit ≡ 0) × (c.number ≡ t → ⊥)) ⊎ (w < c.commit))
  blocks_facts k t w e = (
    eqb-true _ _ (and_left (of_key k c) (clashes t w c) e),
    cases (or_cases (foreign t c) (committed c && ltb w c.commit) (and_right (of_key k c) (clashes t w c) e))
        (λ f. inl (foreign_facts t f))
        (λ f. inr (ltb-true _ _ (and_right (committed c) (ltb w c.commit) f))),
  )

  pub foreign_blocks : (k t w u : ℕ) → Draft c u k → (u ≡ t → ⊥) → blocks k t w c ≡ true
  foreign_blocks k t w u d n =
      both (eq-eqb _ _ d.word) (or_left (foreign t c) (committed c && ltb w c.commit) (foreign_of_lem t u k d n))

  pub later_blocks : (k t w : ℕ) → c.word ≡ k + 1 → w < c.commit → blocks k t w c ≡ true
  later_blocks k t w e h =
      both (eq-eqb _ _ e)
      (or_right (foreign t c) (committed c && ltb w c.commit) (both (committed_of k e (omega arith)) (lt-ltb _ _ h)))

  -- NEWER THAN c
  pub newer_facts : (d : Cell) → newer c d ≡ true → (d.word ≡ c.word) × (c.commit < d.commit)
  newer_facts d e = (
    eqb-true _ _
        (and_left (eqb d.word c.word) (committed d) (and_left (eqb d.word c.word && committed d) (ltb c.commit d.commit) e)),
    ltb-true _ _ (and_right (eqb d.word c.word && committed d) (ltb c.commit d.commit) e),
  )

  pub between_facts : (d : Cell) (w : ℕ) → between c w d ≡ true → (newer c d ≡ true) × (d.commit ≤ w)
  between_facts d w e = (and_left (newer c d) (leb d.commit w) e, leb-true _ _ (and_right (newer c d) (leb d.commit w) e))

  -- SPENT
  pub spent_facts : (ps : List Place) (cs : List Cell) → spent ps cs c ≡ true
      → (0 < c.commit) × (has_cell (newer c) cs ≡ true) × (has_place (keeps_at cs c) ps ≡ false)
  spent_facts ps cs e =
      let a = and_left (committed c && has_cell (newer c) cs) (not (has_place (keeps_at cs c) ps)) e in (
        ltb-true _ _ (and_right (not (empty c)) (ltb 0 c.commit) (and_left (committed c) (has_cell (newer c) cs) a)),
        and_right (committed c) (has_cell (newer c) cs) a,
        not-true _ (and_right (committed c && has_cell (newer c) cs) (not (has_place (keeps_at cs c) ps)) e),
      )

pub newer_of : (c d : Cell) (k : ℕ) → c.word ≡ k + 1 → d.word ≡ k + 1 → c.commit < d.commit → newer c d ≡ true
newer_of c d k e f h = both (both (eq-eqb _ _ (f ∙ sym e)) (committed_of d k f (omega arith))) (lt-ltb _ _ h)

-- THE LOWEST OWN CELL
pub own_draft : (t k : ℕ) (cs : List Cell) (i : ℕ) → own_at k t cs ≡ Some i → Draft (cell_at cs i) t k
own_draft t k cs i e = mine_draft (cell_at cs i) t k (own_found k t cs i e).passes

pub no_draft : (t k : ℕ) (cs : List Cell) (i : ℕ) → own_at k t cs ≡ None → Draft (cell_at cs i) t k → ⊥
no_draft t k cs i e d = clash (draft_mine (cell_at cs i) t k d) (own_none k t cs e i (in_cells cs i k d.word))
