-- The places not idle, and the scans of all places that tell of them.
--     long            the places of a record that a function owns are 16
--     held_count      how many places are not idle
--     held_number     whether one of those has a number
--     held_each       whether every one of those passes a test
--     distinct_turn   whether their numbers are distinct: one turn of a scan from the front, `here` the place that the turn looks at
-- Assumes nothing.
use mathlib.Core.Path.{◌≡◌, refl, sym, ap, ◌∙◌}
use mathlib.Core.Bool.{Bool, true, false, cond, not, ◌&&◌, ◌||◌}
use mathlib.Core.List.{List, [], ◌∷◌, map}
use Prim.Native.Nat.{ℕ, ◌+◌, ◌<◌}
use lib.Dec.{eqb}
use lib.ListN.{length, get_or, drop, length-map}
use Rattle.std.specs.List.{filter, count_by, list_any, list_all}
use Rattle.std.proofs.lemmas.List.Sums.{length-filter}
use Rattle.cells.proofs.Laws.{drop_next}
use Rattle.steps.specs.declared.Place.{Place}
use Rattle.steps.specs.Record.{idle_place, is_idle}
use Rattle.steps.specs.Shape.{held, has_number, distinct, each}

-- a list is as long as what it is mapped to
pub long : (Y : Type 0) (f : Place → Y) (l : List Place) (n : ℕ) → length (map f l) ≡ n → length l ≡ n
long Y f l n e = sym (length-map l f) ∙ e

held_is : (ps : List Place) → filter (λ p. not (is_idle p.state)) ps ≡ held ps
held_is [] = refl
held_is (p ∷ ps) = turn (is_idle p.state) (held_is ps)
  where
    turn : (t : Bool) {l m : List Place} → l ≡ m → cond (not t) (p ∷ l) l ≡ cond t m (p ∷ m)
    turn true e = e
    turn false e = ap (λ (l : List Place). p ∷ l) e

pub held_count : (ps : List Place) → count_by (λ p. not (is_idle p.state)) ps ≡ length (held ps)
held_count ps = sym (length-filter (λ (p : Place). not (is_idle p.state)) ps) ∙ ap length (held_is ps)

pub held_number : (n : ℕ) (ps : List Place) → list_any (λ p. not (is_idle p.state) && eqb p.number n) ps ≡ has_number n (held ps)
held_number n [] = refl
held_number n (p ∷ ps) = turn (is_idle p.state) (held_number n ps)
  where
    turn : (t : Bool) {b : Bool} → b ≡ has_number n (held ps)
        → ((not t && eqb p.number n) || b) ≡ has_number n (cond t (held ps) (p ∷ held ps))
    turn true e = e
    turn false e = ap (λ (b : Bool). eqb p.number n || b) e

pub held_each : (f : Place → Bool) (ps : List Place) → list_all (λ p. is_idle p.state || f p) ps ≡ each f (held ps)
held_each f [] = refl
held_each f (p ∷ ps) = turn (is_idle p.state) (held_each f ps)
  where
    turn : (t : Bool) {b : Bool} → b ≡ each f (held ps) → ((t || f p) && b) ≡ each f (cond t (held ps) (p ∷ held ps))
    turn true e = e
    turn false e = ap (λ (b : Bool). f p && b) e

module _ (ps : List Place) (i : ℕ) (h : i < length ps) where
  abbrev here : Place
  here = get_or ps i idle_place

  abbrev rest : List Place
  rest = held (drop (i + 1) ps)

  pub distinct_turn : {s t : Bool} → is_idle here.state ≡ s → has_number here.number rest ≡ t
      → distinct (held (drop i ps)) ≡ (not (not s && t) && distinct rest)
  distinct_turn e f =
      ap (λ (l : List Place). distinct (held l)) (drop_next ps i idle_place h)
      ∙ turn (is_idle here.state)
      ∙ (λ j. not (not (e j) && f j) && distinct rest)
    where
      turn : (t : Bool) → distinct (cond t rest (here ∷ rest)) ≡ (not (not t && has_number here.number rest) && distinct rest)
      turn true = refl
      turn false = refl
