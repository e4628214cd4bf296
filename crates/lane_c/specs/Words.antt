-- A record as words: how C and Rust hold it.
-- Assumes nothing.
use Rattle.std.specs.Prelude.{Bool, true, ◌&&◌, ℕ, zero, suc, ◌+◌, ◌*◌, eqb, leb, length, get_or, take, drop}
use mathlib.Core.List.{List, [], ◌∷◌, ◌++◌, map, flat_map}
use Rattle.steps.specs.declared.State.{State}
use Rattle.steps.specs.declared.Place.{Place}
use Rattle.steps.specs.declared.Board.{Board}
use Rattle.steps.specs.Record.{all_places}

-- how many words a place is
abbrev pub place_words : ℕ
place_words = 3

-- those of place p stand from here on, its state first
abbrev pub state_word_at : ℕ → ℕ
state_word_at p = place_words * p

-- behind all places the start count
abbrev pub starts_at : ℕ
starts_at = place_words * all_places

-- behind it the commit count
abbrev pub commits_at : ℕ
commits_at = starts_at + 1

-- which is the last of the words that a record is
abbrev pub record_words : ℕ
record_words = commits_at + 1

-- state: 0 idle, 1 open, 2 spoiled, 3 prepared
abbrev pub state_word : State → ℕ
state_word State.Idle = 0
state_word State.Open = 1
state_word State.Spoiled = 2
state_word State.Prepared = 3

-- the state of a word; a word above 3 is none, and no record that has one is read
abbrev pub state_of : ℕ → State
state_of word = get_or (State.Idle ∷ (State.Open ∷ (State.Spoiled ∷ []))) word State.Prepared

-- a place: state, number, view
abbrev pub words_of_place : Place → List ℕ
words_of_place p = state_word p.state ∷ (p.number ∷ (p.view ∷ []))

-- and back
abbrev pub place_of_words : List ℕ → Place
place_of_words ws = record { state = state_of (get_or ws 0 0); number = get_or ws 1 0; view = get_or ws 2 0 }

-- words that are a place: no state word above 3
abbrev pub place_fits : List ℕ → Bool
place_fits ws = leb (get_or ws 0 0) 3

-- so many blocks of so many words, one behind another
unfoldable pub blocks : ℕ → ℕ → List ℕ → List (List ℕ)
blocks width zero ws = []
blocks width (suc n) ws = take width ws ∷ blocks width n (drop width ws)

-- each of them passes a test
unfoldable pub each : (List ℕ → Bool) → List (List ℕ) → Bool
each f [] = true
each f (b ∷ bs) = f b && each f bs

-- a block for each place; the words behind them are none's
abbrev pub place_blocks : List ℕ → List (List ℕ)
place_blocks ws = blocks place_words all_places ws

-- the places that words are
unfoldable pub places_of : List ℕ → List Place
places_of ws = map place_of_words (place_blocks ws)

-- the words of places, one place behind another
unfoldable pub words_of_places : List Place → List ℕ
words_of_places ps = flat_map words_of_place ps

-- the words of the counts, in their order
abbrev pub words_of_counts : Board → List ℕ
words_of_counts b = b.starts ∷ (b.commits ∷ [])

-- the record that words are
unfoldable pub record_of : List ℕ → Board
record_of ws = record { places = places_of ws; starts = get_or ws starts_at 0; commits = get_or ws commits_at 0 }

-- the words of a record
unfoldable pub words_of_record : Board → List ℕ
words_of_record b = words_of_places b.places ++ words_of_counts b

-- words that are a record: as many as a record is, and each place's are a place
unfoldable pub well_formed : List ℕ → Bool
well_formed ws = eqb (length ws) record_words && each place_fits (place_blocks ws)
