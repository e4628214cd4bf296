-- What the quick search for a cell to reuse is made of. No promise speaks of it: the search is proved equal to its rule in Spent.
-- Assumes nothing.
use Rattle.std.specs.Prelude.{◌≡◌, true, List, map, ℕ, ◌≤◌, ◌<◌, min, Option, get_or}
use Rattle.std.specs.List.{filter, reduce}
use Rattle.steps.specs.declared.Place.{Place}
use Rattle.steps.specs.Record.{all_places, is_open, idle_place}

-- the views of the open places
abbrev pub open_views : List Place → List ℕ
open_views ps = map (λ p. p.view) (filter (λ p. is_open p.state) ps)

-- the least of them, where a place is open
abbrev pub oldest_view : List Place → Option ℕ
oldest_view ps = reduce min (open_views ps)

-- no open place has a view below that of place r
pub record OldestAt (ps : List Place) (r : ℕ) : Type 0 where
  pub inside : r < all_places
  pub least : (k : ℕ) → k < all_places → is_open (get_or ps k idle_place).state ≡ true
      → (get_or ps r idle_place).view ≤ (get_or ps k idle_place).view
