-- What the scans mean, in facts of each cell's number, so that no recursion need be trusted:
--     lowest_means, has_means, newest_means     what is computed meets the facts
--     lowest_only, has_only, newest_only        nothing else does
--     lowest_found, lowest_none                 the facts of a search by what it found
--     has_found, has_none                       the facts of "has a cell" by its answer
--     some_has, none_has                        the answer by the facts
--     seen_means, seen_only                     the newest committed cell of the key that a view sees
--     own_found, own_none                       the lowest own cell of a key
--     unique                                    one result meets a contract
-- Assumes nothing.
use mathlib.Core.Path.{◌≡◌, refl, sym, ap, ◌∙◌}
use mathlib.Core.Bool.{Bool, true, false, not, ◌&&◌, ◌||◌, true≢false}
use mathlib.Core.Logic.{◌⊎◌, inl, inr}
use mathlib.Core.List.{List, [], ◌∷◌}
use Prim.Native.Nat.{ℕ, zero, suc, ◌+◌, ◌≤◌, ◌<◌}
use native.Mathlib.Nat.{le_of_suc-le-suc, le_refl}
use native.Mathlib.Omega.{arith}
use borrow.Author.Tests.{ltb-true, ltb-false}
use lib.ListN.{length, get_or}
use lib.Dec.{ltb, leb}
use Rattle.std.specs.Prelude.{Option}
use Rattle.cells.specs.declared.Cell.{Cell}
use Rattle.cells.specs.Cells.{no_cell, empty, of_key, committed, seen_by}
use Rattle.cells.specs.Rules.{pick_found, pick_cell, lowest_from, has_cell, newest, mine, own_at, visible, newest_seen}
use Rattle.cells.proofs.Tests.{and_left, and_right}

-- each contract says that the result, or the words lent, equal what a definition computes: two that meet it are equal
pub unique : {A : Type 0} (x a b : A) → a ≡ x → b ≡ x → a ≡ b
unique x a b p q = p ∙ sym q

-- no test both passes and fails
clash : {t : Bool} → t ≡ true → t ≡ false → ⊥
clash a b = true≢false (sym a ∙ b)

-- of two numbers neither of which is below the other
same_number : (i j : ℕ) → (i < j → ⊥) → (j < i → ⊥) → i ≡ j
same_number i j a b = omega arith

module _ (p : Cell → Bool) where
  -- no cell passes
  abbrev pub None : List Cell → Type 0
  None cs = (k : ℕ) → k < length cs → p (get_or cs k no_cell) ≡ false

  -- cell i passes, and none below it does
  pub record Lowest (cs : List Cell) (i : ℕ) : Type 0 where
    pub inside : i < length cs
    pub passes : p (get_or cs i no_cell) ≡ true
    pub first : (k : ℕ) → k < i → p (get_or cs k no_cell) ≡ false

  -- a cell passes
  pub record Some (cs : List Cell) : Type 0 where
    pub at : ℕ
    pub inside : at < length cs
    pub passes : p (get_or cs at no_cell) ≡ true

  -- r is a cell that passes; none that passes has a greater commit number, and none below it has the same
  pub record Newest (cs : List Cell) (r : Cell) : Type 0 where
    pub at : ℕ
    pub inside : at < length cs
    pub this : r ≡ get_or cs at no_cell
    pub passes : p r ≡ true
    pub most : (k : ℕ) → k < length cs → p (get_or cs k no_cell) ≡ true → (get_or cs k no_cell).commit ≤ r.commit
    pub first : (k : ℕ) → k < at → p (get_or cs k no_cell) ≡ true → (get_or cs k no_cell).commit < r.commit

  -- the right answer to "which is the lowest cell that passes"
  abbrev pub LowestIs : List Cell → Option ℕ → Type 0
  LowestIs cs (Option.Some i) = Lowest cs i
  LowestIs cs Option.None = None cs

  -- the right answer to "does a cell pass"
  abbrev pub HasIs : List Cell → Bool → Type 0
  HasIs cs true = Some cs
  HasIs cs false = None cs

  -- the right answer to "which is the newest cell that passes"
  abbrev pub NewestIs : List Cell → Cell → Type 0
  NewestIs cs r = ((r ≡ no_cell) × None cs) ⊎ Newest cs r

  none_more : (c : Cell) (cs : List Cell) → p c ≡ false → None cs → None (c ∷ cs)
  none_more c cs e f = elim [ zero ↦ λ h. e | suc k ↦ λ h. f k (le_of_suc-le-suc h) ]

  -- the lowest

  -- i is the lowest of cells that are numbered from n
  record From (n i : ℕ) (cs : List Cell) : Type 0 where
    at : ℕ
    place : i ≡ n + at
    lowest : Lowest cs at

  from_turn : (c : Cell) (cs : List Cell) (n i : ℕ) (t : Bool) → p c ≡ t
      → pick_found t (Option.Some n) (lowest_from (n + 1) p cs) ≡ Option.Some i
      → (lowest_from (n + 1) p cs ≡ Option.Some i → From (n + 1) i cs)
      → From n i (c ∷ cs)
  from_turn c cs n i true e q f =
      let s : n ≡ i = cc in
      record {
        at = 0;
        place = omega arith;
        lowest = record { inside = omega arith; passes = e; first = λ k h. absurd (omega arith) };
      }
  from_turn c cs n i false e q f =
      let m = f q in
      record {
        at = suc m.at;
        place = omega (arith, m.place);
        lowest =
            record {
              inside = omega (arith, m.lowest.inside);
              passes = m.lowest.passes;
              first = elim [ zero ↦ λ h. e | suc k ↦ λ h. m.lowest.first k (le_of_suc-le-suc h) ];
            };
      }

  lowest_from_lem : (n : ℕ) (cs : List Cell) (i : ℕ) → lowest_from n p cs ≡ Option.Some i → From n i cs
  unfolding lowest_from
  lowest_from_lem n [] i e = let z : ◌≡◌ {A = ℕ} 0 1 = cc in absurd (omega arith)
  lowest_from_lem n (c ∷ cs) i e = from_turn c cs n i (p c) refl e (lowest_from_lem (n + 1) cs i)

  none_turn : (c : Cell) (cs : List Cell) (n : ℕ) (t : Bool) → p c ≡ t
      → pick_found t (Option.Some n) (lowest_from (n + 1) p cs) ≡ Option.None
      → (lowest_from (n + 1) p cs ≡ Option.None → None cs)
      → None (c ∷ cs)
  none_turn c cs n true e q f = let z : ◌≡◌ {A = ℕ} 0 1 = cc in absurd (omega arith)
  none_turn c cs n false e q f = none_more c cs e (f q)

  none_from : (n : ℕ) (cs : List Cell) → lowest_from n p cs ≡ Option.None → None cs
  unfolding lowest_from
  none_from n [] e = λ k h. absurd (omega arith)
  none_from n (c ∷ cs) e = none_turn c cs n (p c) refl e (none_from (n + 1) cs)

  pub lowest_found : (cs : List Cell) (i : ℕ) → lowest_from 0 p cs ≡ Option.Some i → Lowest cs i
  lowest_found cs i e =
      let m = lowest_from_lem 0 cs i e in
      let s : m.at ≡ i = omega (arith, m.place) in
      rw s at m.lowest

  pub lowest_none : (cs : List Cell) → lowest_from 0 p cs ≡ Option.None → None cs
  lowest_none cs e = none_from 0 cs e

  lowest_is : (cs : List Cell) (f : Option ℕ) → lowest_from 0 p cs ≡ f → LowestIs cs f
  lowest_is cs (Option.Some i) e = lowest_found cs i e
  lowest_is cs Option.None e = lowest_none cs e

  pub lowest_means : (cs : List Cell) → LowestIs cs (lowest_from 0 p cs)
  lowest_means cs = lowest_is cs (lowest_from 0 p cs) refl

  lowest_same : (cs : List Cell) (f g : Option ℕ) → LowestIs cs f → LowestIs cs g → f ≡ g
  lowest_same cs (Option.Some i) (Option.Some j) a b =
      ap Option.Some (same_number i j (λ h. clash a.passes (b.first i h)) (λ h. clash b.passes (a.first j h)))
  lowest_same cs (Option.Some i) Option.None a b = absurd (clash a.passes (b i a.inside))
  lowest_same cs Option.None (Option.Some j) a b = absurd (clash b.passes (a j b.inside))
  lowest_same cs Option.None Option.None a b = refl

  pub lowest_only : (cs : List Cell) (f : Option ℕ) → LowestIs cs f → f ≡ lowest_from 0 p cs
  lowest_only cs f a = lowest_same cs f (lowest_from 0 p cs) a (lowest_means cs)

  -- has a cell

  has_turn : (c : Cell) (cs : List Cell) (t u : Bool) → p c ≡ t → HasIs cs u → HasIs (c ∷ cs) (t || u)
  has_turn c cs true u e m = record { at = 0; inside = omega arith; passes = e }
  has_turn c cs false true e m = record { at = suc m.at; inside = omega (arith, m.inside); passes = m.passes }
  has_turn c cs false false e m = none_more c cs e m

  pub has_means : (cs : List Cell) → HasIs cs (has_cell p cs)
  unfolding has_cell
  has_means [] = λ k h. absurd (omega arith)
  has_means (c ∷ cs) = has_turn c cs (p c) (has_cell p cs) refl (has_means cs)

  has_same : (cs : List Cell) (t u : Bool) → HasIs cs t → HasIs cs u → t ≡ u
  has_same cs true true a b = refl
  has_same cs true false a b = absurd (clash a.passes (b a.at a.inside))
  has_same cs false true a b = absurd (clash b.passes (a b.at b.inside))
  has_same cs false false a b = refl

  pub has_only : (cs : List Cell) (t : Bool) → HasIs cs t → t ≡ has_cell p cs
  has_only cs t a = has_same cs t (has_cell p cs) a (has_means cs)

  pub has_found : (cs : List Cell) → has_cell p cs ≡ true → Some cs
  has_found cs e = rw e at (has_means cs)

  pub has_none : (cs : List Cell) → has_cell p cs ≡ false → None cs
  has_none cs e = rw e at (has_means cs)

  pub some_has : (cs : List Cell) (k : ℕ) → k < length cs → p (get_or cs k no_cell) ≡ true → has_cell p cs ≡ true
  some_has cs k h e = sym (has_only cs true (record { at = k; inside = h; passes = e }))

  pub none_has : (cs : List Cell) → None cs → has_cell p cs ≡ false
  none_has cs f = sym (has_only cs false f)

  -- the newest of b and the cells: r is b, and no cell that passes has a number above b's;
  -- or r is the newest of the cells, and above b
  record Stays (b : Cell) (cs : List Cell) (r : Cell) : Type 0 where
    same : r ≡ b
    low : (k : ℕ) → k < length cs → p (get_or cs k no_cell) ≡ true → (get_or cs k no_cell).commit ≤ b.commit

  record Goes (b : Cell) (cs : List Cell) (r : Cell) : Type 0 where
    newest : Newest cs r
    above : b.commit < r.commit

  abbrev Over : Cell → List Cell → Cell → Type 0
  Over b cs r = Stays b cs r ⊎ Goes b cs r

  -- the first cell passes with a greater number, and is the best from there
  take_one : (b c : Cell) (cs : List Cell) (r : Cell) → p c ≡ true → b.commit < c.commit → Over c cs r
      → Over b (c ∷ cs) r
  take_one b c cs r e l (inl m) =
      let low : (k : ℕ) → k < length (c ∷ cs) → p (get_or (c ∷ cs) k no_cell) ≡ true → (get_or (c ∷ cs) k no_cell).commit ≤ c.commit =
      elim [ zero ↦ λ h q. le_refl c.commit | suc k ↦ λ h q. m.low k (le_of_suc-le-suc h) q ] in
      rw m.same
      (inr (record {
        newest = record { at = 0; inside = omega arith; this = refl; passes = e; most = low; first = λ k h q. absurd (omega arith) };
        above = l;
      }))
  take_one b c cs r e l (inr m) =
      inr (record {
        newest =
            record {
              at = suc m.newest.at;
              inside = omega (arith, m.newest.inside);
              this = m.newest.this;
              passes = m.newest.passes;
              most = elim [ zero ↦ λ h q. omega (arith, m.above) | suc k ↦ λ h q. m.newest.most k (le_of_suc-le-suc h) q ];
              first = elim [ zero ↦ λ h q. m.above | suc k ↦ λ h q. m.newest.first k (le_of_suc-le-suc h) q ];
            };
        above = omega (arith, m.above);
      })

  -- the first cell does not pass, or has no greater number
  pass_one : (b c : Cell) (cs : List Cell) (r : Cell) → (p c ≡ true → c.commit ≤ b.commit) → Over b cs r
      → Over b (c ∷ cs) r
  pass_one b c cs r low (inl m) =
      inl (record { same = m.same; low = elim [ zero ↦ λ h q. low q | suc k ↦ λ h q. m.low k (le_of_suc-le-suc h) q ] })
  pass_one b c cs r low (inr m) =
      inr (record {
        newest =
            record {
              at = suc m.newest.at;
              inside = omega (arith, m.newest.inside);
              this = m.newest.this;
              passes = m.newest.passes;
              most = elim [ zero ↦ λ h q. omega (arith, m.above, low q) | suc k ↦ λ h q. m.newest.most k (le_of_suc-le-suc h) q ];
              first = elim [ zero ↦ λ h q. omega (arith, m.above, low q) | suc k ↦ λ h q. m.newest.first k (le_of_suc-le-suc h) q ];
            };
        above = m.above;
      })

  -- by the two tests that `newest` makes
  by_tests : (b c : Cell) (cs : List Cell) (t u : Bool) → p c ≡ t → ltb b.commit c.commit ≡ u
      → ((d : Cell) → Over d cs (newest p d cs)) → Over b (c ∷ cs) (newest p (pick_cell (t && u) c b) cs)
  by_tests b c cs true true e l ih = take_one b c cs _ e (ltb-true _ _ l) (ih c)
  by_tests b c cs true false e l ih = pass_one b c cs _ (λ q. ltb-false _ _ l) (ih b)
  by_tests b c cs false u e l ih = pass_one b c cs _ (λ q. absurd (clash q e)) (ih b)

  over : (b : Cell) (cs : List Cell) → Over b cs (newest p b cs)
  unfolding newest
  over b [] = inl (record { same = refl; low = λ k h q. absurd (omega arith) })
  over b (c ∷ cs) = by_tests b c cs (p c) (ltb b.commit c.commit) refl refl (λ d. over d cs)

  -- where each cell that passes has a commit number above 0
  module _ (numbered : (c : Cell) → p c ≡ true → 0 < c.commit) where
    fails : (c : Cell) (t : Bool) → p c ≡ t → (p c ≡ true → c.commit ≤ 0) → p c ≡ false
    fails c true e low = absurd (omega (arith, low e, numbered c e))
    fails c false e low = e

    is_over : (cs : List Cell) (r : Cell) → Over no_cell cs r → NewestIs cs r
    is_over cs r (inl m) = inl (m.same, λ k h. fails (get_or cs k no_cell) (p (get_or cs k no_cell)) refl (m.low k h))
    is_over cs r (inr m) = inr m.newest

    pub newest_means : (cs : List Cell) → NewestIs cs (newest p no_cell cs)
    newest_means cs = is_over cs (newest p no_cell cs) (over no_cell cs)

  no_newest : (cs : List Cell) (r : Cell) → None cs → Newest cs r → ⊥
  no_newest cs r none m = clash (sym (ap p m.this) ∙ m.passes) (none m.at m.inside)

  -- the newer of two newest cells is at no lower a number
  not_below : (cs : List Cell) (r s : Cell) (a : Newest cs r) (b : Newest cs s) → a.at < b.at → ⊥
  not_below cs r s a b h =
      let q : p (get_or cs a.at no_cell) ≡ true = sym (ap p a.this) ∙ a.passes in
      let u : p (get_or cs b.at no_cell) ≡ true = sym (ap p b.this) ∙ b.passes in
      let x : r.commit ≡ (get_or cs a.at no_cell).commit = ap (λ (c : Cell). c.commit) a.this in
      let y : s.commit ≡ (get_or cs b.at no_cell).commit = ap (λ (c : Cell). c.commit) b.this in
      omega (arith, b.first a.at h q, a.most b.at b.inside u)

  newest_same : (cs : List Cell) (r s : Cell) → NewestIs cs r → NewestIs cs s → r ≡ s
  newest_same cs r s (inl a) (inl b) = a.0 ∙ sym b.0
  newest_same cs r s (inl a) (inr b) = absurd (no_newest cs s a.1 b)
  newest_same cs r s (inr a) (inl b) = absurd (no_newest cs r b.1 a)
  newest_same cs r s (inr a) (inr b) =
      let e : a.at ≡ b.at = same_number a.at b.at (not_below cs r s a b) (not_below cs s r b a) in
      a.this ∙ ap (λ (k : ℕ). get_or cs k no_cell) e ∙ sym b.this

  pub newest_only : ((c : Cell) → p c ≡ true → 0 < c.commit) → (cs : List Cell) (r : Cell) → NewestIs cs r
      → r ≡ newest p no_cell cs
  newest_only numbered cs r a = newest_same cs r (newest p no_cell cs) a (newest_means numbered cs)

-- the two scans by name
module _ (key view : ℕ) where
  visible_numbered : (c : Cell) → visible key view c ≡ true → 0 < c.commit
  visible_numbered c e =
      let seen : seen_by view c ≡ true = and_right (of_key key c) (seen_by view c) e in
      let done : committed c ≡ true = and_left (committed c) (leb c.commit view) seen in
      ltb-true 0 c.commit (and_right (not (empty c)) (ltb 0 c.commit) done)

  pub seen_means : (cs : List Cell) → NewestIs (visible key view) cs (newest_seen key view cs)
  unfolding newest_seen
  seen_means cs = newest_means (visible key view) visible_numbered cs

  pub seen_only : (cs : List Cell) (r : Cell) → NewestIs (visible key view) cs r → r ≡ newest_seen key view cs
  unfolding newest_seen
  seen_only cs r a = newest_only (visible key view) visible_numbered cs r a

module _ (key number : ℕ) where
  pub own_found : (cs : List Cell) (i : ℕ) → own_at key number cs ≡ Option.Some i → Lowest (mine key number) cs i
  unfolding own_at
  own_found cs i e = lowest_found (mine key number) cs i e

  pub own_none : (cs : List Cell) → own_at key number cs ≡ Option.None → None (mine key number) cs
  unfolding own_at
  own_none cs e = lowest_none (mine key number) cs e
