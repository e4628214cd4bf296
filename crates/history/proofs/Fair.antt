-- On the history alone: where every accepted update passed the conflict test, committed transactions that overlapped wrote no key in
-- common; and every answered read showed what its transaction sees. This is what binds the store; when transactions began and ended, and
-- which others they saw, is in Timed.
--     Fair, fair_..       what is kept by each accepted call, and by one that leaves no trace
--     overlapped_apart    what overlapped wrote no key in common
-- Assumes nothing.
use mathlib.Core.Path.{◌≡◌, refl, sym, ◌∙◌, subst}
use mathlib.Core.Logic.{◌⊎◌, inl, inr}
use mathlib.Core.List.{List, [], ◌∷◌, ◌++◌}
use mathlib.Core.Option.{none, get_or}
use Prim.Native.Nat.{ℕ, ◌+◌, ◌≤◌, ◌<◌}
use native.Mathlib.Nat.{not-suc-le-zero}
use native.Mathlib.Omega.{arith}
use lib.ListN.{length, take}
use lib.Seq.{take-append-le}
use Rattle.steps.specs.declared.State.{State}
use Rattle.steps.specs.Record.{all_places}
use Rattle.history.specs.History.{Event, read, write, last_write, Wrote, Transaction, nobody, doing, turned, Done, Ledger, new_ledger}
use Rattle.history.specs.History.{done_at, begun, ended, put, tick, opened, leave, sees, Contested, Overlapped}
use Rattle.history.proofs.Basics.{cases, eq?, lt?, none_some}
use Rattle.history.proofs.Link.{put_same, put_other, write_other}
use Rattle.history.proofs.Timed.{nth, Timed, grow_at, grow_end, grow_index}

-- WHAT IS KEPT

-- each read showed the last write before it, or else what the base holds
abbrev pub Told : (ℕ → ℕ) → List Event → Type 0
Told base [] = Unit {0}
Told base (read k v ∷ es) = (v ≡ get_or (last_write es k) (base k)) × Told base es
Told base (write k v ∷ es) = Told base es

-- what the first n of the committed leave
abbrev pub snapshot : List Done → ℕ → ℕ → ℕ
snapshot D n k = leave (take n D) k

-- a transaction that saw and did so fits the committed ones: none of those below the bound that it did not see wrote a key that it
-- wrote; and its reads showed what it saw
pub record Fits (D : List Done) (bound seen : ℕ) (did : List Event) : Type 0 where
  pub apart : (i k : ℕ) → seen ≤ i → i < bound → Wrote (nth D i).did k → Wrote did k → ⊥
  pub told : Told (snapshot D seen) did

abbrev RunFits : List Done → Transaction → Type 0
RunFits D r = Fits D (length D) r.seen r.did

-- the transactions at the places fit, and write apart; each committed one fits those before it
pub record Fair (L : Ledger) : Type 0 where
  pub runs : (p : ℕ) → p < all_places → RunFits L.past (L.at p)
  pub others : (p q k : ℕ) → p < all_places → q < all_places → (q ≡ p → ⊥) → Wrote (L.at q).did k → Wrote (L.at p).did k → ⊥
  pub dones : (j : ℕ) → j < length L.past → Fits L.past j (done_at L j).seen (done_at L j).did

pub overlapped_apart : (L : Ledger) → Timed L → Fair L → (i j : ℕ) → i < j → j < length L.past → Overlapped (done_at L i) (done_at L j)
    → (k : ℕ) → Wrote (done_at L i).did k → Wrote (done_at L j).did k → ⊥
overlapped_apart L t f i j h l o k w w' = cases (lt? i (done_at L j).seen)
    (λ g. let z = (t.dones j l).before i g in omega (arith, z, o.1))
    (λ g. (f.dones j l).apart i k g h w w')

-- ONE TRANSACTION

no_write : {A : Type 0} (k : ℕ) → Wrote [] k → A
no_write k w = none_some none w.0 refl w.1

-- one that did nothing yet
idle_fits : (D : List Done) (bound seen : ℕ) → Fits D bound seen []
idle_fits D bound seen = record { apart = λ i k h g w w'. no_write k w'; told = tt }

module _ (D : List Done) (bound seen : ℕ) (did : List Event) (g : Fits D bound seen did) where
  -- a read that showed what it saw
  read_fits : (k v : ℕ) → v ≡ get_or (last_write did k) (snapshot D seen k) → Fits D bound seen (read k v ∷ did)
  read_fits k v e = record { apart = g.apart; told = (e, g.told) }

  -- a write to a key that none of those not seen wrote
  write_fits : (k v : ℕ) → ((i j : ℕ) → seen ≤ i → i < bound → Wrote (nth D i).did j → Wrote (write k v ∷ did) j → ⊥)
      → Fits D bound seen (write k v ∷ did)
  write_fits k v a = record { apart = a; told = g.told }

  -- one more has committed
  grow_fits : (x : Done) → bound ≤ length D → seen ≤ length D → Fits (D ++ (x ∷ [])) bound seen did
  grow_fits x low few =
      record {
        apart = λ i k s h w w'. g.apart i k s h (rw (grow_at D x i (omega arith)) at w) w';
        told = subst (λ (ds : List Done). Told (λ k. leave ds k) did) (sym (take-append-le seen D (x ∷ []) few)) g.told;
      }

-- one more has committed that wrote no key that this one wrote
grow_run : (D : List Done) (r : Transaction) (x : Done) → RunFits D r → r.seen ≤ length D → ((k : ℕ) → Wrote x.did k → Wrote r.did k → ⊥)
    → RunFits (D ++ (x ∷ [])) r
grow_run D r x g few a =
    let f = grow_fits D (length D) r.seen r.did g x (omega arith) few in
    record {
      apart = λ i k s h w w'. cases (grow_index D x i h)
          (λ l. f.apart i k s l w w')
          (λ e. a k (rw (grow_end D x i e) at w) w');
      told = f.told;
    }

-- A NEW LEDGER

pub fresh_fair : Fair new_ledger
fresh_fair =
    record {
      runs = λ p l. idle_fits [] 0 0;
      others = λ p q k l h d w w'. no_write k w';
      dones = λ j h. absurd (not-suc-le-zero h);
    }

module _ (L : Ledger) (f : Fair L) where
  -- A CALL THAT LEAVES NO TRACE
  pub fair_tick : Fair (tick L L.at L.past)
  fair_tick = record { runs = f.runs; others = f.others; dones = f.dones }

  -- ANOTHER TRANSACTION AT PLACE p
  module _ (p starts : ℕ) (r : Transaction) (g : RunFits L.past r)
      (o : (q k : ℕ) → q < all_places → (q ≡ p → ⊥) → Wrote (L.at q).did k → Wrote r.did k → ⊥) where
    abbrev runs' : ℕ → Transaction
    runs' = put L.at p r

    others' : (q s k : ℕ) → q < all_places → s < all_places → (s ≡ q → ⊥) → Wrote (runs' s).did k → Wrote (runs' q).did k → ⊥
    others' q s k lq ls d w w' = cases (eq? q p)
        (λ e.
        let n : s ≡ p → ⊥ = λ z. d (z ∙ sym e) in
        o s k ls n (rw (put_other L.at p r s n) at w) (rw (put_same L.at p r q e) at w'))
        (λ e.
        let v = rw (put_other L.at p r q e) at w' in
        cases (eq? s p)
        (λ z. o q k lq e v (rw (put_same L.at p r s z) at w))
        (λ z. f.others q s k lq ls d (rw (put_other L.at p r s z) at w) v))

    fair_put : Fair (record { calls = L.calls + 1; starts = starts; at = runs'; past = L.past })
    fair_put =
        record {
          runs = λ q l. cases (eq? q p) (λ e. rw (put_same L.at p r q e) g) (λ e. rw (put_other L.at p r q e) (f.runs q l));
          others = others';
          dones = f.dones;
        }

  pub fair_start : (p : ℕ) → Fair (opened L (put L.at p (begun L)))
  fair_start p =
      fair_put p (L.starts + 1) (begun L) (idle_fits L.past (length L.past) (length L.past)) (λ q k l d w w'. no_write k w')

  pub fair_turn : (p : ℕ) (s : State) → p < all_places → Fair (tick L (put L.at p (turned s (L.at p))) L.past)
  fair_turn p s l = fair_put p L.starts (turned s (L.at p)) (f.runs p l) (λ q k h d. f.others p q k l h d)

  -- an answered read that showed what its transaction sees
  pub fair_read : (p k v : ℕ) → p < all_places → v ≡ sees L p k → Fair (tick L (put L.at p (doing (read k v) (L.at p))) L.past)
  fair_read p k v l e =
      let r = L.at p in
      fair_put p L.starts (doing (read k v) r) (read_fits L.past (length L.past) r.seen r.did (f.runs p l) k v e)
      (λ q j h d. f.others p q j l h d)

  pub fair_rollback : (p : ℕ) → Fair (tick L (put L.at p nobody) L.past)
  fair_rollback p = fair_put p L.starts nobody (idle_fits L.past (length L.past) 0) (λ q k h d w w'. no_write k w')

  -- a write that is not the first to its key, or that passed the conflict test
  pub fair_write : (p k v : ℕ) → p < all_places → (Wrote (L.at p).did k ⊎ (Contested L p k → ⊥))
      → Fair (tick L (put L.at p (doing (write k v) (L.at p))) L.past)
  fair_write p k v l c =
      let r = L.at p in
      fair_put p L.starts (doing (write k v) r)
      (write_fits L.past (length L.past) r.seen r.did (f.runs p l) k v
      (λ i j h h' w w'. cases (was j w')
      (λ y. (f.runs p l).apart i j h h' w y)
      (λ y. y.1 (inr (i, h, h', subst (λ (n : ℕ). Wrote (done_at L i).did n) y.0 w)))))
      (λ q j h d w w'. cases (was j w')
      (λ y. f.others p q j l h d w y)
      (λ y. y.1 (inl (q, h, d, subst (λ (n : ℕ). Wrote (L.at q).did n) y.0 w))))
    where
      was : (j : ℕ) → Wrote (write k v ∷ (L.at p).did) j → Wrote (L.at p).did j ⊎ ((j ≡ k) × (Contested L p k → ⊥))
      was j w = cases (eq? j k)
          (λ e. cases c (λ y. inl (subst (λ (n : ℕ). Wrote (L.at p).did n) (sym e) y)) (λ y. inr (e, y)))
          (λ e. inl (w.0, sym (write_other (L.at p).did k v j e) ∙ w.1))

  -- A COMMIT
  module _ (t : Timed L) (p : ℕ) (l : p < all_places) where
    abbrev last : Done
    last = ended L (L.at p)

    abbrev past' : List Done
    past' = L.past ++ (last ∷ [])

    abbrev after : Ledger
    after = tick L (put L.at p nobody) past'

    runs_after : (q : ℕ) → q < all_places → RunFits past' (put L.at p nobody q)
    runs_after q h = cases (eq? q p)
        (λ e. rw (put_same L.at p nobody q e) (idle_fits past' (length past') 0))
        (λ e. rw (put_other L.at p nobody q e)
        (grow_run L.past (L.at q) last (f.runs q h) (t.runs q).few (λ k w w'. f.others p q k l h e w' w)))

    dones_after : (j : ℕ) → j < length past' → Fits past' j (done_at after j).seen (done_at after j).did
    dones_after j h = cases (grow_index L.past last j h)
        (λ z.
        let d = done_at L j in
        rw (grow_at L.past last j z)
        (grow_fits L.past j d.seen d.did (f.dones j z) last (omega arith) (omega (arith, (t.dones j z).few))))
        (λ z.
        let r = L.at p in
        let g : Fits L.past j r.seen r.did =
        subst (λ (n : ℕ). Fits L.past n r.seen r.did) (sym z) (f.runs p l) in
        rw (grow_end L.past last j z) (grow_fits L.past j r.seen r.did g last (omega arith) (t.runs p).few))

    pub fair_commit : Fair after
    fair_commit = record { runs = runs_after; others = (fair_rollback p).others; dones = dones_after }
