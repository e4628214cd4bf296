-- What the first w committed transactions leave for a key is the last of their writes to it, and 0 where there is none.
-- Assumes nothing.
use mathlib.Core.Path.{◌≡◌, refl, ◌∙◌}
use mathlib.Core.List.{List, [], ◌∷◌}
use mathlib.Core.Option
use mathlib.Core.Option.{Option, none, some}
use Prim.Native.Nat.{ℕ, zero, suc, ◌<◌}
use native.Mathlib.Nat.{not-suc-le-zero}
use native.Mathlib.Omega.{arith}
use lib.ListN.{get_or, take}
use Rattle.history.specs.History.{Done, nothing, last_write, leave_from, leave}
use Rattle.history.proofs.Basics.{none_some}

abbrev pub wrote_at : List Done → ℕ → ℕ → Option ℕ
wrote_at D m k = last_write (get_or D m nothing).did k

from_none : (w : ℕ) (D : List Done) (s : ℕ → ℕ) (k : ℕ) → ((m : ℕ) → m < w → wrote_at D m k ≡ none) → leave_from s (take w D) k ≡ s k
unfolding leave_from
from_none zero D s k h = refl
from_none (suc w) [] s k h = refl
from_none (suc w) (d ∷ ds) s k h =
    from_none w ds (λ j. Option.get_or (last_write d.did j) (s j)) k (λ m l. h (suc m) (omega arith)) ∙ rw (h 0 (omega arith))

from_last : (w : ℕ) (D : List Done) (s : ℕ → ℕ) (k g v : ℕ) → g < w → wrote_at D g k ≡ some v
    → ((m : ℕ) → g < m → m < w → wrote_at D m k ≡ none) → leave_from s (take w D) k ≡ v
unfolding leave_from
from_last zero D s k g v l e h = absurd (not-suc-le-zero l)
from_last (suc w) [] s k g v l e h = none_some none v refl e
from_last (suc w) (d ∷ ds) s k zero v l e h =
    from_none w ds (λ j. Option.get_or (last_write d.did j) (s j)) k (λ m l'. h (suc m) (omega arith) (omega arith)) ∙ rw e
from_last (suc w) (d ∷ ds) s k (suc g) v l e h =
    from_last w ds (λ j. Option.get_or (last_write d.did j) (s j)) k g v (omega arith) e
    (λ m l₁ l₂. h (suc m) (omega arith) (omega arith))

pub leave_none : (w : ℕ) (D : List Done) (k : ℕ) → ((m : ℕ) → m < w → wrote_at D m k ≡ none) → leave (take w D) k ≡ 0
leave_none w D k h = from_none w D (λ j. 0) k h

pub leave_last : (w : ℕ) (D : List Done) (k g v : ℕ) → g < w → wrote_at D g k ≡ some v
    → ((m : ℕ) → g < m → m < w → wrote_at D m k ≡ none) → leave (take w D) k ≡ v
leave_last w D k g v l e h = from_last w D (λ j. 0) k g v l e h
