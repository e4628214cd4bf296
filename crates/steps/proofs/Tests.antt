-- Tests and choices: what a test of two parts tells, and a case split for each choice that a step makes by a test or a search.
-- They know nothing of the steps; the crates above use them too.
-- Assumes nothing.
use mathlib.Core.Path.{◌≡◌, refl}
use mathlib.Core.Logic.{◌⊎◌, inl, inr}
use mathlib.Core.Bool.{Bool, true, false, cond, ◌&&◌, ◌||◌}
pub use Rattle.cells.proofs.Tests.{and_left, and_right, or_left, or_right}

pub by_test {ℓ} : {A : Type 0} (P : A → Type ℓ) (t : Bool) {x y : A} → (t ≡ true → P x) → (t ≡ false → P y) → P (cond t x y)
by_test P true f g = f refl
by_test P false f g = g refl

pub two : (t : Bool) → (t ≡ true) ⊎ (t ≡ false)
two true = inl refl
two false = inr refl

pub and_both : {a b : Bool} → a ≡ true → b ≡ true → (a && b) ≡ true
and_both p q = cc

pub or_neither : {a b : Bool} → a ≡ false → b ≡ false → (a || b) ≡ false
or_neither p q = cc
