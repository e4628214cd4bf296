-- Words and cells: where a cell's words stand, how many there are, and that words and cells are each other's inverse.
--     with_cells_lem, cells_with     the words with their own cells are the words; the cells put in words are read back
--     with_with, past_with       putting cells in twice is putting in the last; the words past the last whole cell stay
--     past_whole, whole_words    in whole cells no word stands past the last
--     length_..                  how many words and cells there are
--     cell_read, cell_write      what four reads and four stores at a cell's words are
--     cell_past, write_past      the same for a number that no cell has
--     few_words, first_cell      the first cell of words, and the words left
-- Assumes nothing.
use mathlib.Core.Path.{◌≡◌, refl, sym, ap, ◌∙◌}
use mathlib.Core.List.{List, [], ◌∷◌, ◌++◌}
use Prim.Native.Nat.{ℕ, zero, suc, ◌+◌, ◌-◌, ◌*◌, ◌/◌, ◌%◌, ◌≤◌, ◌<◌}
use native.Mathlib.Omega.{arith}
use lib.ListN.{length, get_or, set, take, drop, get_or-eq_default}
use lib.Seq.{set_out}
use Rattle.std.proofs.lemmas.List.{append-nil, nil_from_length, take_rest}
use Rattle.cells.specs.declared.Cell.{Cell}
use Rattle.cells.specs.Cells.{cells_of, words_of, past_cells, with_cells, no_cell}

pub with_cells_lem : (ws : List ℕ) → with_cells ws (cells_of ws) ≡ ws
unfolding cells_of words_of past_cells with_cells
with_cells_lem [] = refl
with_cells_lem (a ∷ []) = refl
with_cells_lem (a ∷ (b ∷ [])) = refl
with_cells_lem (a ∷ (b ∷ (c ∷ []))) = refl
with_cells_lem (a ∷ (b ∷ (c ∷ (d ∷ ws)))) = ap (λ (r : List ℕ). a ∷ (b ∷ (c ∷ (d ∷ r)))) (with_cells_lem ws)

cells_past : (ws : List ℕ) → cells_of (past_cells ws) ≡ []
unfolding cells_of past_cells
cells_past [] = refl
cells_past (a ∷ []) = refl
cells_past (a ∷ (b ∷ [])) = refl
cells_past (a ∷ (b ∷ (c ∷ []))) = refl
cells_past (a ∷ (b ∷ (c ∷ (d ∷ ws)))) = cells_past ws

past_past : (ws : List ℕ) → past_cells (past_cells ws) ≡ past_cells ws
unfolding past_cells
past_past [] = refl
past_past (a ∷ []) = refl
past_past (a ∷ (b ∷ [])) = refl
past_past (a ∷ (b ∷ (c ∷ []))) = refl
past_past (a ∷ (b ∷ (c ∷ (d ∷ ws)))) = past_past ws

pub length_past : (ws : List ℕ) → length (past_cells ws) ≡ length ws % 4
unfolding past_cells
length_past [] = refl
length_past (a ∷ []) = refl
length_past (a ∷ (b ∷ [])) = refl
length_past (a ∷ (b ∷ (c ∷ []))) = refl
length_past (a ∷ (b ∷ (c ∷ (d ∷ ws)))) = omega (arith, length_past ws)

pub length_cells : (ws : List ℕ) → length (cells_of ws) ≡ length ws / 4
unfolding cells_of
length_cells [] = refl
length_cells (a ∷ []) = refl
length_cells (a ∷ (b ∷ [])) = refl
length_cells (a ∷ (b ∷ (c ∷ []))) = refl
length_cells (a ∷ (b ∷ (c ∷ (d ∷ ws)))) = omega (arith, length_cells ws)

pub cells_with : (ws : List ℕ) (cs : List Cell) → cells_of (with_cells ws cs) ≡ cs
unfolding cells_of words_of with_cells
cells_with ws [] = cells_past ws
cells_with ws (c ∷ cs) = ap (λ (r : List Cell). c ∷ r) (cells_with ws cs)

pub past_with : (ws : List ℕ) (cs : List Cell) → past_cells (with_cells ws cs) ≡ past_cells ws
unfolding past_cells words_of with_cells
past_with ws [] = past_past ws
past_with ws (c ∷ cs) = past_with ws cs

pub with_with : (ws : List ℕ) (cs ds : List Cell) → with_cells (with_cells ws cs) ds ≡ with_cells ws ds
unfolding with_cells
with_with ws cs ds = ap (λ (past : List ℕ). words_of ds ++ past) (past_with ws cs)

pub length_with : (ws : List ℕ) (cs : List Cell) → length (with_cells ws cs) ≡ 4 * length cs + length ws % 4
unfolding words_of with_cells
length_with ws [] = omega (arith, length_past ws)
length_with ws (c ∷ cs) = omega (arith, length_with ws cs)

pub length_same : (ws : List ℕ) (cs : List Cell) → length cs ≡ length (cells_of ws) → length (with_cells ws cs) ≡ length ws
length_same ws cs e = omega (arith, length_with ws cs, length_cells ws)

pub past_whole : (ws : List ℕ) → length ws % 4 ≡ 0 → past_cells ws ≡ []
past_whole ws e = nil_from_length (past_cells ws) (length_past ws ∙ e)

-- no words are lent, and so none stand past the cells
pub cells_words : (cs : List Cell) → cells_of (words_of cs) ≡ cs
unfolding cells_of words_of
cells_words [] = refl
cells_words (c ∷ cs) = ap (λ (r : List Cell). c ∷ r) (cells_words cs)

pub whole_words : (ws : List ℕ) (cs : List Cell) → length ws % 4 ≡ 0 → with_cells ws cs ≡ words_of cs
unfolding with_cells
whole_words ws cs e = ap (λ (past : List ℕ). words_of cs ++ past) (past_whole ws e) ∙ append-nil (words_of cs)

-- where the words of the next cell stand
over : (i j : ℕ) → 4 * suc i + j ≡ suc (suc (suc (suc (4 * i + j))))
over i j = omega arith

-- four reads
abbrev pub cell_at : List ℕ → ℕ → Cell
cell_at ws i =
    record { word = get_or ws (4 * i) 0; value = get_or ws (4 * i + 1) 0; number = get_or ws (4 * i + 2) 0; commit = get_or ws (4 * i + 3) 0 }

pub cell_read : (ws : List ℕ) (i : ℕ) → i < length ws / 4 → cell_at ws i ≡ get_or (cells_of ws) i no_cell
unfolding cells_of
cell_read [] i h = absurd (omega arith)
cell_read (a ∷ []) i h = absurd (omega arith)
cell_read (a ∷ (b ∷ [])) i h = absurd (omega arith)
cell_read (a ∷ (b ∷ (c ∷ []))) i h = absurd (omega arith)
cell_read (a ∷ (b ∷ (c ∷ (d ∷ ws)))) zero h = refl
cell_read (a ∷ (b ∷ (c ∷ (d ∷ ws)))) (suc i) h =
    let e : 4 * suc i ≡ suc (suc (suc (suc (4 * i)))) = omega arith in
    rw (over i 1, over i 2, over i 3, e) (cell_read ws i (omega arith))

-- four stores
abbrev pub set4 : List ℕ → ℕ → Cell → List ℕ
set4 ws i c = set (set (set (set ws (4 * i) c.word) (4 * i + 1) c.value) (4 * i + 2) c.number) (4 * i + 3) c.commit

pub cell_write : (ws : List ℕ) (i : ℕ) (c : Cell) → i < length ws / 4 → set4 ws i c ≡ with_cells ws (set (cells_of ws) i c)
unfolding cells_of words_of past_cells with_cells
cell_write [] i x h = absurd (omega arith)
cell_write (a ∷ []) i x h = absurd (omega arith)
cell_write (a ∷ (b ∷ [])) i x h = absurd (omega arith)
cell_write (a ∷ (b ∷ (c ∷ []))) i x h = absurd (omega arith)
cell_write (a ∷ (b ∷ (c ∷ (d ∷ ws)))) zero x h =
    ap (λ (r : List ℕ). x.word ∷ (x.value ∷ (x.number ∷ (x.commit ∷ r)))) (sym (with_cells_lem ws))
cell_write (a ∷ (b ∷ (c ∷ (d ∷ ws)))) (suc i) x h =
    let e : 4 * suc i ≡ suc (suc (suc (suc (4 * i)))) = omega arith in
    rw (over i 1, over i 2, over i 3, e)
    (ap (λ (r : List ℕ). a ∷ (b ∷ (c ∷ (d ∷ r)))) (cell_write ws i x (omega arith)))

-- a number that no cell has: nothing is read there, and nothing written
module _ (ws : List ℕ) (i : ℕ) (h : length ws / 4 ≤ i) where
  past_cells_lem : length (cells_of ws) ≤ i
  past_cells_lem = rw length_cells h

  pub cell_past : no_cell ≡ get_or (cells_of ws) i no_cell
  cell_past = sym (get_or-eq_default (cells_of ws) no_cell past_cells_lem)

  pub write_past : (c : Cell) → ws ≡ with_cells ws (set (cells_of ws) i c)
  write_past c = sym (ap (with_cells ws) (set_out (cells_of ws) i c past_cells_lem) ∙ with_cells_lem ws)

-- the first cell of words, and the words left
pub few_words : (ws : List ℕ) → length ws < 4 → cells_of ws ≡ []
unfolding cells_of
few_words [] h = refl
few_words (a ∷ []) h = refl
few_words (a ∷ (b ∷ [])) h = refl
few_words (a ∷ (b ∷ (c ∷ []))) h = refl
few_words (a ∷ (b ∷ (c ∷ (d ∷ ws)))) h = absurd (omega arith)

first_dropped : (ws : List ℕ) → 4 ≤ length ws → cells_of ws ≡ cell_at ws 0 ∷ cells_of (drop 4 ws)
unfolding cells_of
first_dropped [] h = absurd (omega arith)
first_dropped (a ∷ []) h = absurd (omega arith)
first_dropped (a ∷ (b ∷ [])) h = absurd (omega arith)
first_dropped (a ∷ (b ∷ (c ∷ []))) h = absurd (omega arith)
first_dropped (a ∷ (b ∷ (c ∷ (d ∷ ws)))) h = refl

module _ (ws : List ℕ) (h : 4 ≤ length ws) where
  abbrev pub words_left : List ℕ
  words_left = take (length ws - 4) (drop 4 ws)

  pub first_cell : cells_of ws ≡ cell_at ws 0 ∷ cells_of words_left
  first_cell = rw (take_rest ws 4) (first_dropped ws h)

  pub one_less : length (cells_of words_left) < length (cells_of ws)
  one_less = rw first_cell (omega arith)
