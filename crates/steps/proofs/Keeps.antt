-- A step on a board in shape leaves a board in shape, whatever its cells hold.
--     keeps_shape        for any words and any call
--     keeps_lengths      on any board: the number of words, and of places, stays as it was
--     Shape              in shape, in facts; shape_of and in_shape_lem go there and back
-- Of the places not idle only the caller's changes. So what is said of them all is said of that one and of the others:
-- `Put q others all` is that they all are the others with q put in among them.
-- Assumes nothing.
use Rattle.std.specs.Prelude.{Err}
use Prim.Native.Nat.{ℕ, zero, suc, ◌+◌, ◌≤◌, ◌<◌}
use mathlib.Core.Path.{◌≡◌, refl, sym, ap, ◌∙◌}
use mathlib.Core.Logic.{⊎_elim}
use mathlib.Core.Bool.{Bool, true, false, cond, not, ◌&&◌, ◌||◌, true≢false}
use mathlib.Core.List.{List, [], ◌∷◌, map}
use native.Mathlib.Nat.{le_of_suc-le-suc}
use native.Mathlib.Omega.{arith}
use borrow.Author.Tests.{leb-true, leb-false, le-leb, ltb-true, ltb-false}
use borrow.Author.Tests.{eqb-true, eqb-false, eq-eqb, ne_eqb, not-false}
use lib.Dec.{eqb, leb, ltb}
use lib.ListN.{length, get_or, set, length-set, length-map}
use lib.Seq.{set-get_or, set_out}
use Rattle.records.specs.declared.Call.{Call}
use Rattle.records.specs.declared.Refusal.{Refusal}
use Rattle.cells.specs.declared.Cell.{Cell}
use Rattle.cells.specs.Cells.{whole_cells}
use Rattle.cells.proofs.Words.{length_same}
use Rattle.steps.specs.declared.State.{State}
use Rattle.steps.specs.declared.Place.{Place}
use Rattle.steps.specs.declared.Board.{Board}
use Rattle.steps.specs.Record.{most_cells, most_starts, is_idle, idle_place, open_place, in_state, place_at, with_place, with_counts}
use Rattle.steps.specs.Shape.{held, has_number, distinct, counted, each, in_shape}
use Rattle.steps.specs.Store.{Store, Outcome, cells_in, with_cells_in}
use Rattle.steps.specs.Step.{done, facts, step}
use Rattle.steps.proofs.Tests.{two, and_both, and_left, and_right, or_neither}
use Rattle.steps.proofs.Cases.{Cleared, on_step, on_read, on_update}

-- ---- one place among others
data Put (q : Place) : List Place → List Place → Type 0 where
  here : {l : List Place} → Put q l (q ∷ l)
  there : {x : Place} {l m : List Place} → Put q l m → Put q (x ∷ l) (x ∷ m)

put_length : {q : Place} {l m : List Place} → Put q l m → length m ≡ suc (length l)
put_length here = refl
put_length (there r) = ap suc (put_length r)

swap_and : (a b c : Bool) → (a && (b && c)) ≡ (b && (a && c))
swap_and true b c = refl
swap_and false true c = refl
swap_and false false c = refl

put_each : (f : Place → Bool) {q : Place} {l m : List Place} → Put q l m → each f m ≡ (f q && each f l)
put_each f here = refl
put_each f {q} (there {x} {l} r) = ap (λ (u : Bool). f x && u) (put_each f r) ∙ swap_and (f x) (f q) (each f l)

swap_or : (a b c : Bool) → (a || (b || c)) ≡ (b || (a || c))
swap_or true true c = refl
swap_or true false c = refl
swap_or false b c = refl

put_has : (n : ℕ) {q : Place} {l m : List Place} → Put q l m → has_number n m ≡ (eqb q.number n || has_number n l)
put_has n here = refl
put_has n {q} (there {x} {l} r) =
    ap (λ (u : Bool). eqb x.number n || u) (put_has n r)
    ∙ swap_or (eqb x.number n) (eqb q.number n) (has_number n l)

eqb_swap : (a b : ℕ) → eqb a b ≡ eqb b a
eqb_swap a b =
    ⊎_elim
    (λ e. e ∙ sym (eq-eqb b a (sym (eqb-true a b e))))
    (λ e. e ∙ sym (ne_eqb b a (λ f. eqb-false a b e (sym f))))
    (two (eqb a b))

swap_not : (a b c d : Bool) → (not (a || b) && (not c && d)) ≡ (not (a || c) && (not b && d))
swap_not true b c d = refl
swap_not false b c d = swap_and (not b) (not c) d

put_distinct : {q : Place} {l m : List Place} → Put q l m → distinct m ≡ (not (has_number q.number l) && distinct l)
put_distinct here = refl
put_distinct {q} (there {x} {l} r) =
    rw (put_has x.number r, put_distinct r, eqb_swap q.number x.number)
    (swap_not (eqb x.number q.number) (has_number x.number l) (has_number q.number l) (distinct l))

-- ---- the places not idle, where place i is q
put_at_lem : (ps : List Place) (i : ℕ) (q : Place) → i < length ps → is_idle q.state ≡ false
    → Put q (held (set ps i idle_place)) (held (set ps i q))
put_at_lem [] i q h e = absurd (omega arith)
put_at_lem (p ∷ ps) zero q h e = rw e here
put_at_lem (p ∷ ps) (suc i) q h e = more (is_idle p.state) (put_at_lem ps i q (le_of_suc-le-suc h) e)
  where
    more : (t : Bool) {l m : List Place} → Put q l m → Put q (cond t l (p ∷ l)) (cond t m (p ∷ m))
    more true r = r
    more false r = there r

-- an idle place that becomes an idle one
idle_at : (ps : List Place) (i : ℕ) → is_idle (get_or ps i idle_place).state ≡ true → held (set ps i idle_place) ≡ held ps
idle_at [] i e = refl
idle_at (p ∷ ps) zero e = rw e
idle_at (p ∷ ps) (suc i) e = ap (λ (l : List Place). cond (is_idle p.state) l (p ∷ l)) (idle_at ps i e)

-- a place not idle is one of the places
inside : (ps : List Place) (i : ℕ) → is_idle (get_or ps i idle_place).state ≡ false → i < length ps
inside [] i e = absurd (true≢false e)
inside (p ∷ ps) zero e = omega arith
inside (p ∷ ps) (suc i) e = let h = inside ps i e in omega arith

put_old : (ps : List Place) (i : ℕ) → is_idle (get_or ps i idle_place).state ≡ false
    → Put (get_or ps i idle_place) (held (set ps i idle_place)) (held ps)
put_old ps i e = rw set-get_or at (put_at_lem ps i (get_or ps i idle_place) (inside ps i e) e)

-- ---- in shape, in facts
pub record Shape (b : Board) (words : ℕ) : Type 0 where
  pub whole : whole_cells most_cells words ≡ true
  pub few : b.starts ≤ most_starts
  pub room : b.commits + length (held b.places) ≤ b.starts
  pub apart : distinct (held b.places) ≡ true
  pub within : each (counted b.starts b.commits) (held b.places) ≡ true

module _ (b : Board) (words : ℕ) where
  abbrev t₁ : Bool
  t₁ = whole_cells most_cells words

  abbrev t₂ : Bool
  t₂ = leb b.starts most_starts

  abbrev t₃ : Bool
  t₃ = leb (b.commits + length (held b.places)) b.starts

  abbrev t₄ : Bool
  t₄ = distinct (held b.places)

  abbrev t₅ : Bool
  t₅ = each (counted b.starts b.commits) (held b.places)

  pub shape_of : in_shape b words ≡ true → Shape b words
  unfolding in_shape
  shape_of e =
      let e₄ = and_left (t₁ && t₂ && t₃ && t₄) t₅ e in
      let e₃ = and_left (t₁ && t₂ && t₃) t₄ e₄ in
      let e₂ = and_left (t₁ && t₂) t₃ e₃ in
      record {
        whole = and_left t₁ t₂ e₂;
        few = leb-true _ _ (and_right t₁ t₂ e₂);
        room = leb-true _ _ (and_right (t₁ && t₂) t₃ e₃);
        apart = and_right (t₁ && t₂ && t₃) t₄ e₄;
        within = and_right (t₁ && t₂ && t₃ && t₄) t₅ e;
      }

  pub in_shape_lem : Shape b words → in_shape b words ≡ true
  unfolding in_shape
  in_shape_lem s =
      let e₂ = and_both s.whole (le-leb _ _ s.few) in
      and_both (and_both (and_both e₂ (le-leb _ _ s.room)) s.apart) s.within

-- ---- the counts
counted_parts : (s c : ℕ) (p : Place) → counted s c p ≡ true → (1 ≤ p.number) × (p.number ≤ s) × (p.view ≤ c)
counted_parts s c p e =
    let l = and_left (leb 1 p.number && leb p.number s) (leb p.view c) e in (
      leb-true _ _ (and_left (leb 1 p.number) (leb p.number s) l),
      leb-true _ _ (and_right (leb 1 p.number) (leb p.number s) l),
      leb-true _ _ (and_right (leb 1 p.number && leb p.number s) (leb p.view c) e),
    )

counted_of : (s c : ℕ) (p : Place) → 1 ≤ p.number → p.number ≤ s → p.view ≤ c → counted s c p ≡ true
counted_of s c p h k l = and_both (and_both (le-leb _ _ h) (le-leb _ _ k)) (le-leb _ _ l)

module _ (s c : ℕ) where
  each_parts : (p : Place) (l : List Place) → each (counted s c) (p ∷ l) ≡ true
      → ((1 ≤ p.number) × (p.number ≤ s) × (p.view ≤ c)) × (each (counted s c) l ≡ true)
  each_parts p l e =
      (counted_parts s c p (and_left (counted s c p) (each (counted s c) l) e), and_right (counted s c p) (each (counted s c) l) e)

  -- larger counts hold what these held
  each_more : (s' c' : ℕ) → s ≤ s' → c ≤ c' → (l : List Place) → each (counted s c) l ≡ true → each (counted s' c') l ≡ true
  each_more s' c' hs hc [] e = refl
  each_more s' c' hs hc (p ∷ l) e =
      let k = each_parts p l e in
      and_both (counted_of s' c' p k.0.0 (omega arith) (omega arith)) (each_more s' c' hs hc l k.1)

  -- no place has a number above the start count
  has_none : (n : ℕ) → s < n → (l : List Place) → each (counted s c) l ≡ true → has_number n l ≡ false
  has_none n h [] e = refl
  has_none n h (p ∷ l) e =
      let k = each_parts p l e in
      or_neither (ne_eqb p.number n (λ q. omega arith)) (has_none n h l k.1)

-- ---- the steps
module _ (b : Board) (words : ℕ) (s : Shape b words) where
  abbrev fits : Place → Bool
  fits = counted b.starts b.commits

  module _ (p : ℕ) (i : is_idle (place_at b p).state ≡ true) (h : b.starts < most_starts) where
    abbrev new : Place
    new = open_place (b.starts + 1) b.commits

    abbrev after : List Place → Board
    after ps = record { places = ps; starts = b.starts + 1; commits = b.commits }

    -- the start count has grown, and the places are as they were
    grown : Shape (after b.places) words
    grown =
        record {
          whole = s.whole;
          few = omega arith;
          room = omega (arith, s.room);
          apart = s.apart;
          within = each_more _ _ (b.starts + 1) b.commits (omega arith) (omega arith) (held b.places) s.within;
        }

    -- and an idle place takes the new transaction
    entered : Put new (held b.places) (held (set b.places p new)) → Shape (after (set b.places p new)) words
    entered r =
        record {
          whole = s.whole;
          few = omega arith;
          room = omega (arith, s.room, put_length r);
          apart =
              put_distinct r
              ∙ and_both (ap not (has_none _ _ (b.starts + 1) (omega arith) (held b.places) s.within)) s.apart;
          within =
              put_each (counted (b.starts + 1) b.commits) r
              ∙ and_both (counted_of _ _ new (omega arith) (omega arith) (omega arith)) grown.within;
        }

    -- a place past the last stays out
    start_shape : Shape (after (set b.places p new)) words
    start_shape =
        ⊎_elim
        (λ l. entered (rw idle_at at (put_at_lem b.places p new (ltb-true _ _ l) refl)))
        (λ l. rw (set_out b.places p new (ltb-false _ _ l)) grown)
        (two (ltb p (length b.places)))

  module _ (p : ℕ) (e : is_idle (place_at b p).state ≡ false) where
    abbrev others : List Place
    others = held (set b.places p idle_place)

    abbrev old : Put (place_at b p) others (held b.places)
    old = put_old b.places p e

    -- the place becomes idle, and the commit count grows by one at most
    idle_shape : (c : ℕ) → b.commits ≤ c → c ≤ b.commits + 1
        → Shape (with_counts (with_place b p idle_place) b.starts c) words
    idle_shape c lo hi =
        record {
          whole = s.whole;
          few = s.few;
          room = omega (arith, s.room, put_length old);
          apart = and_right (not (has_number (place_at b p).number others)) _ (sym (put_distinct old) ∙ s.apart);
          within =
              each_more b.starts b.commits b.starts c (omega arith) lo others
              (and_right (fits (place_at b p)) _ (sym (put_each fits old) ∙ s.within));
        }

    -- the place changes its state alone
    turn_shape : (t : State) → is_idle t ≡ false → Shape (with_place b p (in_state t (place_at b p))) words
    turn_shape t i =
        let r : Put (in_state t (place_at b p)) others (held (set b.places p (in_state t (place_at b p)))) =
        put_at_lem b.places p (in_state t (place_at b p)) (inside b.places p e) i in
        record {
          whole = s.whole;
          few = s.few;
          room = omega (arith, s.room, put_length old, put_length r);
          apart = put_distinct r ∙ sym (put_distinct old) ∙ s.apart;
          within = put_each fits r ∙ sym (put_each fits old) ∙ s.within;
        }

module _ (st : Store) where
  abbrev b : Board
  b = st.board

  abbrev words : ℕ
  words = length st.words

  placed : (p : ℕ) (q : Place) → length (set b.places p q) ≡ length b.places
  placed p q = length-set b.places p q

  written : (i : ℕ) (c : Cell) → length (with_cells_in st (set (cells_in st) i c)).words ≡ words
  written i c = length_same st.words _ (length-set (cells_in st) i c)

  mapped : (f : Cell → Cell) → length (with_cells_in st (map f (cells_in st))).words ≡ words
  mapped f = length_same st.words _ (length-map (cells_in st) f)

  abbrev Lengths : Outcome → Type 0
  Lengths o = (length o.store.words ≡ words) × (length o.store.board.places ≡ length b.places)

  done_lengths : (call : Call) → Lengths (done st call)
  done_lengths (Call.Start p) = (refl, placed p _)
  done_lengths (Call.Read p key) = on_read Lengths st p key (λ i e. (refl, refl)) (λ e h. (refl, refl)) (λ e h. (refl, refl))
  done_lengths (Call.Update p key value) =
      on_update Lengths st p key value
      (λ i e. (written i _, refl))
      (λ e h. (refl, placed p _))
      (λ e h i f. (written i _, refl))
      (λ e h f. (refl, refl))
  done_lengths (Call.Prepare p) = (refl, placed p _)
  done_lengths (Call.Commit p) = (mapped _, placed p _)
  done_lengths (Call.Rollback p) = (mapped _, placed p _)

  pub keeps_lengths : (call : Call) → Lengths (step st call)
  keeps_lengths call = on_step Lengths st call (λ a e. (refl, refl)) (λ g. done_lengths call)

  abbrev Fits : Outcome → Type 0
  Fits o = Shape o.store.board words

  done_shape : Shape b words → (call : Call) → Cleared (facts st call) → Fits (done st call)
  done_shape s (Call.Start p) g = start_shape b words s p (not-false _ (g (Err Refusal.Busy))) (leb-false _ _ (g (Err Refusal.Worn)))
  done_shape s (Call.Read p key) g = on_read Fits st p key (λ i e. s) (λ e h. s) (λ e h. s)
  done_shape s (Call.Update p key value) g =
      on_update Fits st p key value
      (λ i e. s)
      (λ e h. turn_shape b words s p (g (Err Refusal.Idle)) State.Spoiled refl)
      (λ e h i f. s)
      (λ e h f. s)
  done_shape s (Call.Prepare p) g = turn_shape b words s p (g (Err Refusal.Idle)) State.Prepared refl
  done_shape s (Call.Commit p) g = idle_shape b words s p (g (Err Refusal.Idle)) _ (omega arith) (omega arith)
  done_shape s (Call.Rollback p) g = idle_shape b words s p (g (Err Refusal.Idle)) _ (omega arith) (omega arith)

  pub keeps_shape : (call : Call) → in_shape b words ≡ true → in_shape (step st call).store.board (length (step st call).store.words) ≡ true
  keeps_shape call e =
      let s = shape_of b words e in
      rw (keeps_lengths call).0 (in_shape_lem _ _ (on_step Fits st call (λ a _. s) (done_shape s call)))
