-- A call that changes nothing, an answered read, a change of state and a start keep the link.
-- Assumes nothing.
use mathlib.Core.Path.{◌≡◌, refl, sym, ap, ◌∙◌}
use mathlib.Core.Logic.{inl, inr}
use mathlib.Core.Bool.{true}
use mathlib.Core.List.{List}
use mathlib.Core.Option.{none, some}
use Prim.Native.Nat.{ℕ, ◌+◌, ◌<◌}
use native.Mathlib.Omega.{arith}
use lib.ListN.{length-set}
use lib.Seq.{get_or-set_same, get_or-set_other}
use Rattle.cells.specs.declared.Cell.{Cell}
use Rattle.steps.specs.declared.State.{State}
use Rattle.steps.specs.declared.Place.{Place}
use Rattle.steps.specs.declared.Board.{Board}
use Rattle.steps.specs.Record.{all_places, idle_place, open_place, in_state, place_at, with_place, started_board}
use Rattle.steps.specs.Shape.{held, distinct}
use Rattle.history.specs.History.{read, last_write, Transaction, doing, turned, Ledger, begun, put, tick, opened}
use Rattle.history.proofs.Basics.{cases, eq?, none_some}
use Rattle.history.proofs.Facts.{cell_at}
use Rattle.history.proofs.Link.{put_same, put_other, wrote, Matches, Live, Linked}

-- A CALL THAT CHANGES NOTHING ON THE BOARD

-- two runs that differ in nothing that the link speaks of
pub record Alike (r s : Transaction) : Type 0 where
  pub state : r.state ≡ s.state
  pub seen : r.seen ≡ s.seen
  pub wrote : (k : ℕ) → last_write r.did k ≡ last_write s.did k

module _ (b : Board) (cs : List Cell) (L : Ledger) (𝓛 : Linked b cs L) where
  alike_links : (f : ℕ → Transaction) → ((q : ℕ) → Alike (f q) (L.at q)) → Linked b cs (tick L f L.past)
  alike_links f a =
      record {
        numbers = 𝓛.numbers;
        sixteen = 𝓛.sixteen;
        counted = 𝓛.counted;
        begun = 𝓛.begun;
        placed = λ q h.
            let m = 𝓛.placed q h in
            record {
              state = m.state ∙ sym (a q).state;
              view = m.view ∙ sym (a q).seen;
              blank = λ s k. (a q).wrote k ∙ m.blank (sym (a q).state ∙ s) k;
            };
        seen = λ q h. rw (a q).seen (𝓛.seen q h);
        drafts = λ j n ek ec. let r = 𝓛.drafts j n ek ec in (r.0, r.1, r.2, (a r.0).wrote n ∙ r.3);
        pasts = 𝓛.pasts;
        drafted = λ q n u h e. 𝓛.drafted q n u h (sym ((a q).wrote n) ∙ e);
        kept = 𝓛.kept;
        single = 𝓛.single;
        unique = 𝓛.unique;
      }

  pub tick_links : Linked b cs (tick L L.at L.past)
  tick_links = alike_links L.at (λ q. record { state = refl; seen = refl; wrote = λ k. refl })

  pub read_links : (p k v : ℕ) → Linked b cs (tick L (put L.at p (doing (read k v) (L.at p))) L.past)
  read_links p k v = alike_links (put L.at p (doing (read k v) (L.at p))) (λ q. cases (eq? q p)
      (λ e. rw (put_same L.at p (doing (read k v) (L.at p)) q e) (rw e (record { state = refl; seen = refl; wrote = λ j. refl })))
      (λ e. rw (put_other L.at p (doing (read k v) (L.at p)) q e) (record { state = refl; seen = refl; wrote = λ j. refl })))

-- A CHANGE OF STATE, TO SPOILED OR PREPARED
module _ (b : Board) (cs : List Cell) (L : Ledger) (𝓛 : Linked b cs L) (p : ℕ) (s : State) (l : p < all_places)
    (i : s ≡ State.Idle → ⊥) (o : s ≡ State.Open → ⊥) where
  abbrev new : Place
  new = in_state s (place_at b p)

  abbrev after : Board
  after = with_place b p new

  abbrev noted : Ledger
  noted = tick L (put L.at p (turned s (L.at p))) L.past

  there : (q : ℕ) → q ≡ p → place_at after q ≡ new
  there q e = rw e (get_or-set_same b.places p new idle_place (omega (arith, 𝓛.sixteen)))

  elsewhere : (q : ℕ) → (q ≡ p → ⊥) → place_at after q ≡ place_at b q
  elsewhere q e = get_or-set_other b.places p q new idle_place e

  number' : (q : ℕ) → (place_at after q).number ≡ (place_at b q).number
  number' q = cases (eq? q p) (λ e. rw (there q e) (rw e refl)) (λ e. rw (elsewhere q e) refl)

  run' : (q : ℕ) → ((noted.at q).seen ≡ (L.at q).seen) × ((noted.at q).did ≡ (L.at q).did)
  run' q = cases (eq? q p)
      (λ e. rw (put_same L.at p (turned s (L.at p)) q e) (rw e (refl, refl)))
      (λ e. rw (put_other L.at p (turned s (L.at p)) q e) (refl, refl))

  live' : (w : ℕ) → Live after w → Live b w
  live' w live = cases live (λ e. inl e)
      (λ y. cases (eq? y.0 p)
      (λ e. absurd (o (sym (ap (λ (x : Place). x.state) (there y.0 e)) ∙ y.2)))
      (λ e.
      let c = ap (λ (x : Place). x.state) (elsewhere y.0 e) in
      let d = ap (λ (x : Place). x.view) (elsewhere y.0 e) in
      inr (y.0, y.1, sym c ∙ y.2, sym d ∙ y.3)))

  placed' : (q : ℕ) → q < all_places → Matches (place_at after q) (noted.at q)
  placed' q h = cases (eq? q p)
      (λ e. rw (put_same L.at p (turned s (L.at p)) q e) (rw (there q e)
      (record { state = refl; view = (𝓛.placed p l).view; blank = λ z. absurd (i z) })))
      (λ e. rw (put_other L.at p (turned s (L.at p)) q e) (rw (elsewhere q e) (𝓛.placed q h)))

  pub turn_links : distinct (held after.places) ≡ true → Linked after cs noted
  turn_links apart =
      record {
        numbers = apart;
        sixteen = length-set b.places p new ∙ 𝓛.sixteen;
        counted = 𝓛.counted;
        begun = 𝓛.begun;
        placed = placed';
        seen = λ q h. rw (run' q).0 (𝓛.seen q h);
        drafts = λ j n ek ec. let r = 𝓛.drafts j n ek ec in (r.0, r.1, number' r.0 ∙ r.2, rw (run' r.0).1 r.3);
        pasts = 𝓛.pasts;
        drafted = λ q n u h e. let r = 𝓛.drafted q n u h (rw (run' q).1 at e) in (r.0, rw (number' q) r.1);
        kept = λ w live. 𝓛.kept w (live' w live);
        single = 𝓛.single;
        unique = 𝓛.unique;
      }

-- A START
module _ (b : Board) (cs : List Cell) (L : Ledger) (𝓛 : Linked b cs L) (p : ℕ) (l : p < all_places) (i : (place_at b p).state ≡ State.Idle) where
  abbrev opening : Place
  opening = open_place (b.starts + 1) b.commits

  abbrev started : Board
  started = started_board b p

  abbrev noted' : Ledger
  noted' = opened L (put L.at p (begun L))

  at_p : (q : ℕ) → q ≡ p → place_at started q ≡ opening
  at_p q e = rw e (get_or-set_same b.places p opening idle_place (omega (arith, 𝓛.sixteen)))

  at_q : (q : ℕ) → (q ≡ p → ⊥) → place_at started q ≡ place_at b q
  at_q q e = get_or-set_other b.places p q opening idle_place e

  -- nobody at p wrote
  writer : (q k v : ℕ) → q < all_places → wrote L q k ≡ some v → q ≡ p → ⊥
  writer q k v h e g =
      none_some (wrote L q k) v ((𝓛.placed q h).blank (sym (𝓛.placed q h).state ∙ rw g i) k) e

  live'' : (w : ℕ) → Live started w → Live b w
  live'' w live = cases live (λ e. inl e)
      (λ y. cases (eq? y.0 p)
      (λ e. inl (sym y.3 ∙ ap (λ (x : Place). x.view) (at_p y.0 e)))
      (λ e.
      let c = ap (λ (x : Place). x.state) (at_q y.0 e) in
      let d = ap (λ (x : Place). x.view) (at_q y.0 e) in
      inr (y.0, y.1, sym c ∙ y.2, sym d ∙ y.3)))

  placed'' : (q : ℕ) → q < all_places → Matches (place_at started q) (noted'.at q)
  placed'' q h = cases (eq? q p)
      (λ e. rw (put_same L.at p (begun L) q e) (rw (at_p q e)
      (record { state = refl; view = 𝓛.counted; blank = λ z k. refl })))
      (λ e. rw (put_other L.at p (begun L) q e) (rw (at_q q e) (𝓛.placed q h)))

  pub start_links : distinct (held started.places) ≡ true → Linked started cs noted'
  start_links apart =
      record {
        numbers = apart;
        sixteen = length-set b.places p opening ∙ 𝓛.sixteen;
        counted = 𝓛.counted;
        begun = ap (λ (n : ℕ). n + 1) 𝓛.begun;
        placed = placed'';
        seen = λ q h. cases (eq? q p)
            (λ e. rw (put_same L.at p (begun L) q e) (omega arith))
            (λ e. rw (put_other L.at p (begun L) q e) (𝓛.seen q h));
        drafts = λ j n ek ec.
            let r = 𝓛.drafts j n ek ec in
            let d = writer r.0 n (cell_at cs j).value r.1 r.3 in
            (r.0, r.1, rw (at_q r.0 d) r.2, rw (put_other L.at p (begun L) r.0 d) r.3);
        pasts = 𝓛.pasts;
        drafted = λ q n u h e. cases (eq? q p)
            (λ g. none_some none u refl (rw (put_same L.at p (begun L) q g) at e))
            (λ g.
            let r = 𝓛.drafted q n u h (sym (ap (λ (r : Transaction). last_write r.did n) (put_other L.at p (begun L) q g)) ∙ e) in
            (r.0, rw (at_q q g) r.1));
        kept = λ w live. 𝓛.kept w (live'' w live);
        single = 𝓛.single;
        unique = 𝓛.unique;
      }
