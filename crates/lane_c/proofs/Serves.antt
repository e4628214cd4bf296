-- Call records over words: what `lane_serve` comes to where they are no record, and that its contract leaves one answer.
-- Assumes nothing.
use mathlib.Core.Path.{◌≡◌, sym, ap, ◌∙◌}
use mathlib.Core.Bool.{Bool, false, cond}
use mathlib.Core.List.{List}
use Prim.Native.Nat.{ℕ}
use Rattle.lanes.specs.Serve.{serve_into}
use Rattle.lane_c.specs.declared.LaneServed.{LaneServed}
use Rattle.lane_c.specs.Words.{well_formed}
use Rattle.lane_c.specs.Call.{store_of}
use Rattle.lane_c.specs.Serve.{Handed, handed, serving_words, nothing_served, lane_serve}

module _ (ws cs calls answers : List ℕ) where
  -- words that are no record
  pub serve_board : well_formed ws ≡ false → nothing_served ws cs answers ≡ lane_serve ws cs calls answers
  unfolding lane_serve
  serve_board w =
      sym
      (ap (λ (t : Bool). cond t (serving_words (serve_into (store_of ws cs) calls answers)) (nothing_served ws cs answers)) w)

  -- the contract leaves one answer: what is returned, the words of the record, the words of the cells and the answers
  pub serve_unique : (r s : LaneServed) (ws₁ cs₁ as₁ ws₂ cs₂ as₂ : List ℕ)
      → handed r ws₁ cs₁ as₁ ≡ lane_serve ws cs calls answers → handed s ws₂ cs₂ as₂ ≡ lane_serve ws cs calls answers
      → (r ≡ s) × ((ws₁ ≡ ws₂) × ((cs₁ ≡ cs₂) × (as₁ ≡ as₂)))
  serve_unique r s ws₁ cs₁ as₁ ws₂ cs₂ as₂ p q =
      let e : handed r ws₁ cs₁ as₁ ≡ handed s ws₂ cs₂ as₂ = p ∙ sym q in (
        (λ i. record { taken = (e i).taken; written = (e i).written; why = (e i).why }),
        (ap (λ (x : Handed). x.words) e, (ap (λ (x : Handed). x.cells) e, ap (λ (x : Handed). x.answers) e)),
      )
