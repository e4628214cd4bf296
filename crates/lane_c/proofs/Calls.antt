-- One call over words: the contract of `lane_call` leaves one answer.
-- Assumes nothing.
use mathlib.Core.Path.{◌≡◌, sym, ap, ◌∙◌}
use mathlib.Core.List.{List}
use Prim.Native.Nat.{ℕ}
use native.Mathlib.Omega.{arith}
use Rattle.lane_c.specs.Call.{upper, lower, Crossed, crossed, lane_call}

-- two words with the same upper and the same lower 32 bits are the same
same_word : (r s : ℕ) → upper r ≡ upper s → lower r ≡ lower s → r ≡ s
same_word r s u l = omega arith

-- the contract leaves one answer: the word returned, the words of the record and the words of the cells
pub call_unique : (ws cs : List ℕ) (kind place key value : ℕ) (r s : ℕ) (ws₁ cs₁ ws₂ cs₂ : List ℕ)
    → crossed r ws₁ cs₁ ≡ lane_call ws cs kind place key value → crossed s ws₂ cs₂ ≡ lane_call ws cs kind place key value
    → (r ≡ s) × ((ws₁ ≡ ws₂) × (cs₁ ≡ cs₂))
call_unique ws cs kind place key value r s ws₁ cs₁ ws₂ cs₂ p q =
    let e : crossed r ws₁ cs₁ ≡ crossed s ws₂ cs₂ = p ∙ sym q in (
      same_word r s (ap (λ (x : Crossed). x.said.number) e) (ap (λ (x : Crossed). x.said.value) e),
      (ap (λ (x : Crossed). x.words) e, ap (λ (x : Crossed). x.cells) e),
    )
