-- Words and records: what stands where, and that words and records are each other's inverse.
--     state_.., word_state              a state and its word
--     wide, place_words_lem, words_place    a place and its words
--     length_places, place_at_lem           the places that words are
--     whole_blocks, well_by_..          the places that the code takes the words apart into, and its test of them
--     save_turn, save_end               a turn, and the end, of writing a record
--     numbers                           theorem: where the counts stand, and how many words there are, as lane.h has it
--     open_inside, open_word            a place that is open is one of those there, and its state word is 1
--     state_set                         another state at a place is another word there
--     record_words_lem                      theorem: the record of a record's words is the record
--     words_record                      theorem: the words of the record of well formed words are the words
--     well_words, fresh_words_lem           theorems: the words of a record are well formed; zeros are the fresh record
-- Assumes nothing.
use mathlib.Core.Path.{◌≡◌, refl, sym, ap, ◌∙◌}
use mathlib.Core.Bool.{Bool, true, ◌&&◌}
use mathlib.Core.List.{List, [], ◌∷◌, ◌++◌, map, flat_map, append_assoc}
use Prim.Native.Nat.{ℕ, zero, suc, ◌+◌, ◌*◌, ◌-◌, ◌/◌, ◌<◌}
use native.Mathlib.Nat.{zero-add, suc-add}
use native.Mathlib.Omega.{arith}
use lib.Dec.{eqb, leb}
use lib.ListN.{length, get_or, set, take, drop, replicate, length-append, length-map, take-append-drop, get_or-map}
use lib.Seq.{get_or-append-add, get_or-drop, get_or-take, take_all, sets}
use borrow.Author.Tests.{leb-true, eqb-true, eq-eqb, ne_eqb}
use Rattle.std.specs.List.{list_all}
use Rattle.std.specs.Simd.{first_chunks}
use Rattle.steps.specs.declared.State.{State}
use Rattle.steps.specs.declared.Place.{Place}
use Rattle.steps.specs.declared.Board.{Board}
use Rattle.steps.specs.Record.{all_places, idle_place, in_state, fresh_board, place_at}
use Rattle.records.proofs.Bytes.{gets}
use Rattle.steps.proofs.Tests.{and_left, and_right}
use Rattle.lane_c.specs.Words.{place_words, state_word_at, starts_at, commits_at, record_words, state_word, state_of}
use Rattle.lane_c.specs.Words.{words_of_place, place_of_words, place_fits}
use Rattle.lane_c.specs.Words.{blocks, each, place_blocks, places_of, words_of_places, words_of_counts, record_of, words_of_record, well_formed}
use Rattle.lane_c.proofs.Blocks.{length_blocks, block_at, blocks_std, each_std}
use Rattle.lane_c.proofs.Blocks.{length_written, blocks_written, written_turn, written_blocks, reads_last, stores_last}

-- where the counts stand, and how many words there are
pub numbers : (starts_at ≡ 48) × ((commits_at ≡ 49) × (record_words ≡ 50))
numbers = (refl, (refl, refl))

-- the state of a word that is one
state_word_lem : (s : State) → state_of (state_word s) ≡ s
state_word_lem State.Idle = refl
state_word_lem State.Open = refl
state_word_lem State.Spoiled = refl
state_word_lem State.Prepared = refl

word_state : (n : ℕ) → leb n 3 ≡ true → state_word (state_of n) ≡ n
word_state zero h = refl
word_state (suc zero) h = refl
word_state (suc (suc zero)) h = refl
word_state (suc (suc (suc zero))) h = refl
word_state (suc (suc (suc (suc n)))) h = absurd (omega (arith, leb-true (suc (suc (suc (suc n)))) 3 h))

state_fits : (s : State) → leb (state_word s) 3 ≡ true
state_fits State.Idle = refl
state_fits State.Open = refl
state_fits State.Spoiled = refl
state_fits State.Prepared = refl

-- a place and its words
pub wide : (p : Place) → length (words_of_place p) ≡ place_words
wide p = refl

place_words_lem : (p : Place) → place_of_words (words_of_place p) ≡ p
place_words_lem p = rw (state_word_lem p.state)

words_place : (ws : List ℕ) → length ws ≡ place_words → place_fits ws ≡ true → words_of_place (place_of_words ws) ≡ ws
words_place ws l h = rw (word_state (get_or ws 0 0) h) (reads_last place_words ws 0 (omega arith))

place_fits_lem : (p : Place) → place_fits (words_of_place p) ≡ true
place_fits_lem p = state_fits p.state

-- the places that words are
pub length_places : (ws : List ℕ) → length (places_of ws) ≡ all_places
unfolding places_of
length_places ws = length-map (place_blocks ws) place_of_words ∙ length_blocks place_words all_places ws

-- the words of place p
abbrev pub words_at : List ℕ → ℕ → List ℕ
words_at ws p = take place_words (drop (state_word_at p) ws)

pub place_at_lem : (ws : List ℕ) (i : ℕ) → i < all_places → get_or (places_of ws) i idle_place ≡ place_of_words (words_at ws i)
unfolding places_of
place_at_lem ws i h = get_or-map place_of_words (place_blocks ws) i [] ∙ ap place_of_words (block_at place_words all_places i ws [] h)

-- a place that is open is one of those there, and its state word is 1
open_state : (n : ℕ) → state_of n ≡ State.Open → n ≡ state_word State.Open
open_state zero e = absurd (let z : ◌≡◌ {A = ℕ} 0 1 = cc in omega arith)
open_state (suc zero) e = refl
open_state (suc (suc zero)) e = absurd (let z : ◌≡◌ {A = ℕ} 0 1 = cc in omega arith)
open_state (suc (suc (suc n))) e = absurd (let z : ◌≡◌ {A = ℕ} 0 1 = cc in omega arith)

pub open_inside : (ps : List Place) (i : ℕ) → (get_or ps i idle_place).state ≡ State.Open → i < length ps
open_inside [] i e = absurd (let z : ◌≡◌ {A = ℕ} 0 1 = cc in omega arith)
open_inside (p ∷ ps) zero e = omega arith
open_inside (p ∷ ps) (suc i) e = let h = open_inside ps i e in omega arith

first_word : (ws : List ℕ) (i : ℕ) → get_or (words_at ws i) 0 0 ≡ get_or ws (state_word_at i) 0
first_word ws i =
    let e : state_word_at i + 0 ≡ state_word_at i = omega arith in
    get_or-take place_words (drop (state_word_at i) ws) 0 0 (omega arith)
    ∙ get_or-drop (state_word_at i) ws 0 0
    ∙ ap (λ (n : ℕ). get_or ws n 0) e

pub open_word : (ws : List ℕ) (i : ℕ) → (get_or (places_of ws) i idle_place).state ≡ State.Open → get_or ws (state_word_at i) 0 ≡ state_word State.Open
open_word ws i e =
    let h : i < all_places = omega (arith, open_inside (places_of ws) i e, length_places ws) in
    sym (first_word ws i)
    ∙ open_state (get_or (words_at ws i) 0 0) (sym (ap (λ (p : Place). p.state) (place_at_lem ws i h)) ∙ e)

-- another state at a place is another word there
set_behind : (a l : List ℕ) (n x : ℕ) → set (a ++ l) (length a + n) x ≡ a ++ set l n x
set_behind [] l n x = ap (λ (m : ℕ). set l m x) (zero-add n)
set_behind (b ∷ a) l n x = ap (λ (m : ℕ). set (b ∷ (a ++ l)) m x) (suc-add (length a) n) ∙ ap (λ (m : List ℕ). b ∷ m) (set_behind a l n x)

pub state_set : (ps : List Place) (past : List ℕ) (i : ℕ) (s : State) → i < length ps
    → words_of_places (set ps i (in_state s (get_or ps i idle_place))) ++ past ≡ set (words_of_places ps ++ past) (state_word_at i) (state_word s)
unfolding words_of_places flat_map
state_set [] past i s h = absurd (omega arith)
state_set (p ∷ ps) past zero s h = refl
state_set (p ∷ ps) past (suc i) s h =
    let far : state_word_at (suc i) ≡ length (words_of_place p) + state_word_at i = omega arith in
    append_assoc (words_of_place p) (flat_map words_of_place (set ps i (in_state s (get_or ps i idle_place)))) past
    ∙ ap (λ (l : List ℕ). words_of_place p ++ l) (state_set ps past i s (omega arith))
    ∙ sym (set_behind (words_of_place p) (flat_map words_of_place ps ++ past) (state_word_at i) (state_word s))
    ∙ (λ j. set (sym (append_assoc (words_of_place p) (flat_map words_of_place ps) past) j) (sym far j) (state_word s))

-- the whole blocks in the words of a record are those of its places
pub whole_blocks : (ws : List ℕ) → length ws ≡ record_words → first_chunks place_words (length ws / place_words) ws ≡ place_blocks ws
whole_blocks ws l =
    let all : length ws / place_words ≡ all_places = omega arith in
    ap (λ (n : ℕ). first_chunks place_words n ws) all ∙ blocks_std place_words all_places ws

pub length_words : (ps : List Place) → length (words_of_places ps) ≡ place_words * length ps
unfolding words_of_places
length_words ps = length_written place_words words_of_place wide ps

places_back : (ps : List Place) → map place_of_words (map words_of_place ps) ≡ ps
places_back [] = refl
places_back (p ∷ ps) = λ i. place_words_lem p i ∷ places_back ps i

fit_back : (ps : List Place) → each place_fits (map words_of_place ps) ≡ true
unfolding each
fit_back [] = refl
fit_back (p ∷ ps) = rw (place_fits_lem p, fit_back ps)

-- a record's words
module _ (b : Board) (full : length b.places ≡ all_places) where
  blocks_back : place_blocks (words_of_record b) ≡ map words_of_place b.places
  unfolding words_of_record words_of_places
  blocks_back = rw (← full) (blocks_written place_words words_of_place wide b.places (words_of_counts b))

  pub length_record : length (words_of_record b) ≡ record_words
  unfolding words_of_record
  length_record = omega (arith, length-append (words_of_places b.places) (words_of_counts b), length_words b.places)

  -- the counts stand behind the places
  count_at : (j : ℕ) → get_or (words_of_record b) (starts_at + j) 0 ≡ get_or (words_of_counts b) j 0
  unfolding words_of_record
  count_at j =
      let e : starts_at + j ≡ length (words_of_places b.places) + j = omega (arith, length_words b.places) in
      rw e (get_or-append-add (words_of_places b.places) (words_of_counts b) j 0)

  -- the record of a record's words is the record
  pub record_words_lem : record_of (words_of_record b) ≡ b
  unfolding record_of places_of
  record_words_lem = rw (blocks_back, places_back b.places, count_at 0, count_at 1)

  -- the words of a record are well formed
  pub well_words : well_formed (words_of_record b) ≡ true
  unfolding well_formed
  well_words = rw (eq-eqb (length (words_of_record b)) record_words length_record, blocks_back) (fit_back b.places)

-- one place more is written, and the counts behind the last
module _ (l : List ℕ) (long : length l ≡ record_words) (b : Board) (full : length b.places ≡ all_places) (i : ℕ)
    (so : take (state_word_at i) l ≡ words_of_places (take i b.places))
  where
    pub save_turn : (ws rest : List ℕ) → i < all_places → ws ≡ words_of_place (place_at b i)
        → take (state_word_at (i + 1)) (take (state_word_at i) l ++ (ws ++ rest)) ≡ words_of_places (take (i + 1) b.places)
    unfolding words_of_places
    save_turn ws rest h e =
        written_turn place_words words_of_place wide l ws rest b.places i idle_place (omega arith) (omega arith) so e

    pub save_end : i ≡ all_places → sets l starts_at (words_of_counts b) ≡ words_of_record b
    unfolding words_of_record
    save_end e =
        let all : take starts_at l ≡ words_of_places (take all_places b.places) = rw e at so in
        stores_last (words_of_counts b) l starts_at (omega arith)
        ∙ ap (λ (r : List ℕ). r ++ words_of_counts b) (all ∙ ap words_of_places (take_all all_places b.places (omega arith)))

pub well_length : (ws : List ℕ) → well_formed ws ≡ true → length ws ≡ record_words
unfolding well_formed
well_length ws h = eqb-true (length ws) record_words (and_left (eqb (length ws) record_words) (each place_fits (place_blocks ws)) h)

-- as the code tests it: the length, and then each place's words
pub well_by_length : (ws : List ℕ) → (length ws ≡ record_words → ⊥) → eqb (length ws) record_words ≡ well_formed ws
unfolding well_formed
well_by_length ws n = rw (ne_eqb (length ws) record_words n)

pub well_by_places : (ws : List ℕ) → length ws ≡ record_words
    → list_all place_fits (first_chunks place_words (length ws / place_words) ws) ≡ well_formed ws
unfolding well_formed
well_by_places ws l =
    each_std place_fits (first_chunks place_words (length ws / place_words) ws)
    ∙ ap (each place_fits) (whole_blocks ws l)
    ∙ ap (λ (t : Bool). t && each place_fits (place_blocks ws)) (sym (eq-eqb (length ws) record_words l))

-- the words of the record of well formed words are the words
pub words_record : (ws : List ℕ) → well_formed ws ≡ true → words_of_record (record_of ws) ≡ ws
unfolding well_formed record_of places_of words_of_record words_of_places
words_record ws h =
    let l : length ws ≡ record_words = well_length ws h in
    let fit : each place_fits (place_blocks ws) ≡ true = and_right (eqb (length ws) record_words) (each place_fits (place_blocks ws)) h in
    let ps : flat_map words_of_place (map place_of_words (place_blocks ws)) ≡ take starts_at ws =
    written_blocks place_words words_of_place wide place_of_words place_fits words_place all_places ws (omega arith) fit
    in
    let counts : gets (record_words - starts_at) ws starts_at ≡ drop starts_at ws = reads_last (record_words - starts_at) ws starts_at (omega arith) in
    (λ i. ps i ++ counts i) ∙ take-append-drop starts_at ws

-- zeros are the fresh record
pub fresh_words_lem : record_of (replicate record_words 0) ≡ fresh_board
unfolding record_of places_of blocks
fresh_words_lem = refl
