-- Case splits, what `&&` and `||` say beside the steps' own laws of them, and what a search of places finds.
-- Assumes nothing.
use mathlib.Core.Path.{◌≡◌, refl, sym, ◌∙◌}
use mathlib.Core.Logic.{◌⊎◌, inl, inr}
use mathlib.Core.Bool.{Bool, true, false, ◌&&◌, ◌||◌, true≢false, false≢true}
use mathlib.Core.List.{List, [], ◌∷◌}
use mathlib.Core.Option.{Option, none, some}
use Prim.Native.Nat.{ℕ, zero, suc, ◌+◌, ◌≤◌, ◌<◌}
use native.Mathlib.Nat.{le_of_suc-le-suc, not-suc-le-zero}
use native.Mathlib.Omega.{arith}
use lib.Dec.{eqb}
use lib.ListN.{length, get_or}
use borrow.Author.Tests.{eqb-true, eqb-false}
use Rattle.steps.specs.declared.Place.{Place}
use Rattle.steps.specs.Record.{idle_place}
use Rattle.steps.specs.Spent.{has_place}

-- CASES

pub cases {ℓ} : {A B : Type 0} {C : Type ℓ} → A ⊎ B → (A → C) → (B → C) → C
cases (inl a) f g = f a
cases (inr b) f g = g b

pub clash : {t : Bool} {A : Type 0} → t ≡ true → t ≡ false → A
clash a b = absurd (true≢false (sym a ∙ b))

pub eq? : (q p : ℕ) → (q ≡ p) ⊎ (q ≡ p → ⊥)
eq? q p = go (eqb q p) refl
  where
    go : (t : Bool) → eqb q p ≡ t → (q ≡ p) ⊎ (q ≡ p → ⊥)
    go true e = inl (eqb-true q p e)
    go false e = inr (eqb-false q p e)

pub lt? : (i n : ℕ) → (i < n) ⊎ (n ≤ i)
lt? i zero = inr (omega arith)
lt? zero (suc n) = inl (omega arith)
lt? (suc i) (suc n) = cases (lt? i n) (λ h. inl (omega arith)) (λ h. inr (omega arith))

pub none? : (o : Option ℕ) → (o ≡ none) ⊎ ((v : ℕ) × (o ≡ some v))
none? none = inl refl
none? (some v) = inr (v, refl)

pub none_some : {A : Type 0} (o : Option ℕ) (v : ℕ) → o ≡ none → o ≡ some v → A
none_some o v e f = absurd (let z : ◌≡◌ {A = ℕ} 0 1 = cc in omega arith)

pub pos : (n : ℕ) → 0 < n → (m : ℕ) × (n ≡ m + 1)
pos zero h = absurd (not-suc-le-zero h)
pos (suc m) h = (m, omega arith)

-- TESTS

pub and_false : (a b : Bool) → (a && b) ≡ false → a ≡ true → b ≡ false
and_false true b e h = e
and_false false b e h = absurd (false≢true h)

pub or_cases : (a b : Bool) → (a || b) ≡ true → (a ≡ true) ⊎ (b ≡ true)
or_cases true b e = inl refl
or_cases false b e = inr e

pub or_left : (a b : Bool) → a ≡ true → (a || b) ≡ true
or_left a b e = cc

pub or_right : (a b : Bool) → b ≡ true → (a || b) ≡ true
or_right true b e = refl
or_right false b e = e

-- A SEARCH OF PLACES

-- a place that passes
pub record SomePlace (q : Place → Bool) (l : List Place) : Type 0 where
  pub at : ℕ
  pub inside : at < length l
  pub passes : q (get_or l at idle_place) ≡ true

module _ (q : Place → Bool) where
  next_place : (x : Place) (xs : List Place) → SomePlace q xs → SomePlace q (x ∷ xs)
  next_place x xs r = record { at = suc r.at; inside = omega (arith, r.inside); passes = r.passes }

  pub place_found : (l : List Place) → has_place q l ≡ true → SomePlace q l
  unfolding has_place
  place_found [] e = absurd (false≢true e)
  place_found (x ∷ xs) e = cases (or_cases (q x) (has_place q xs) e)
      (λ h. record { at = 0; inside = omega arith; passes = h })
      (λ h. next_place x xs (place_found xs h))

  pub some_place : (l : List Place) (i : ℕ) → i < length l → q (get_or l i idle_place) ≡ true → has_place q l ≡ true
  unfolding has_place
  some_place [] i h e = absurd (not-suc-le-zero h)
  some_place (x ∷ xs) zero h e = or_left (q x) (has_place q xs) e
  some_place (x ∷ xs) (suc i) h e = or_right (q x) (has_place q xs) (some_place xs i (le_of_suc-le-suc h) e)
