-- Any sequence of `lane_call`s from zero words tells a history on a fresh board.
--     calls_tell                  each call got what it gets in the history, and the last words are the record's and the cells'
--     no_kind, no_kind_nothing    what is left out: the kinds other than 1 to 6, which get 12 and change nothing
--     calls_right, calls_full     every answer is right, and FULL is exact
-- Assumes nothing.
use Rattle.std.specs.Prelude.{Option, Some, None}
use mathlib.Core.Path.{◌≡◌, refl, sym, ap, ◌∙◌, subst}
use mathlib.Core.Logic.{◌⊎◌, ◌↔◌, inl, inr}
use mathlib.Core.List.{List, [], ◌∷◌, map}
use Prim.Native.Nat.{ℕ, zero, suc, ◌≤◌, ◌<◌}
use native.Mathlib.Nat.{le_of_suc-le-suc, not-suc-le-zero}
use native.Mathlib.Omega.{arith}
use lib.ListN.{length, get_or}
use Rattle.records.specs.declared.Call.{Call}
use Rattle.steps.specs.Record.{all_places, fresh_board}
use Rattle.steps.specs.Store.{Store, lent, fresh_store}
use Rattle.steps.specs.Step.{step}
use Rattle.steps.specs.Run.{Pair, Run, pair_of, run}
use Rattle.steps.proofs.Keeps.{keeps_lengths}
use Rattle.history.specs.History.{from_fresh, Demand3}
use Rattle.history.proofs.Basics.{cases}
use Rattle.history.proofs.Demand.{demand3}
use Rattle.history.proofs.Judge.{all_right, full_right}
use Rattle.lane_c.specs.Words.{record_of, words_of_record}
use Rattle.lane_c.specs.Call.{call_named, Crossed, on_named, lane_call}
use Rattle.lane_c.proofs.Words.{record_words_lem}
use Rattle.lane_c.proofs.Kept.{step_on}
use Rattle.hosts.specs.Calls.{Asked, Got, Called, calls_on, calls_from_zeros, call_asked, named_then, calls_asked, pair_then, pairs_got, run_of}
use Rattle.hosts.specs.Calls.{nothing_got, GotRecord, CallsPromise, NoKind, NoKindNothing, CallsRight, CallsFull}
use Rattle.hosts.proofs.Fresh.{zero_record, zero_cells, run_full}

-- THE SAME PAIRS, RECORD AND CELLS

-- lane_calls came to what a run of calls comes to
pub record Same (hs : List Pair) (ws cs : List ℕ) (r : Run) : Type 0 where
  pub pairs : hs ≡ r.pairs
  pub words : ws ≡ words_of_record r.store.board
  pub cells : cs ≡ r.store.words

-- on the words of a record
abbrev pub AsRun : List Asked → Type 0
AsRun asked = (st : Store) → length st.board.places ≡ all_places
    → let r : Called = calls_on (words_of_record st.board) st.words asked in
    Same (pairs_got r.got) r.words r.cells (run st (calls_asked asked))

-- one that gave x, and then others
abbrev Behind : Option Call → List Asked → Asked → Crossed → Run → Type 0
Behind read more a x p =
    let r : Called = calls_on x.words x.cells more in
    Same (pair_then read (record { asked = a; said = x.said }) (pairs_got r.got)) r.words r.cells p

one : (a : Asked) (more : List Asked) → AsRun more → (read : Option Call) (st : Store) → length st.board.places ≡ all_places
    → Behind read more a (on_named read (words_of_record st.board) st.words) (run st (named_then read (calls_asked more)))
unfolding run
one a more later (Some call) st full =
    let s = later (step st call).store ((keeps_lengths st call).1 ∙ full) in
    subst (λ (x : Crossed). Behind (Some call) more a x (run st (call ∷ calls_asked more))) (sym (step_on st full call))
    (record { pairs = ap (λ (hs : List Pair). pair_of st call ∷ hs) s.pairs; words = s.words; cells = s.cells })
one a more later None st full = later st full

pub same : (asked : List Asked) → AsRun asked
unfolding calls_on calls_asked pairs_got run lane_call
same [] st full = record { pairs = refl; words = refl; cells = refl }
same (a ∷ more) st full = one a more (same more) (call_asked a) st full

each_asked : (asked : List Asked) (ws cs : List ℕ) → map (λ (g : Got). g.asked) (calls_on ws cs asked).got ≡ asked
unfolding calls_on
each_asked [] ws cs = refl
each_asked (a ∷ more) ws cs = ap (λ (l : List Asked). a ∷ l) (each_asked more _ _)

-- A KIND THAT NAMES NO CALL

pub no_kind_nothing : NoKindNothing
unfolding lane_call
no_kind_nothing ws cs a e = ap (λ (read : Option Call). on_named read ws cs) e

got_record : (asked : List Asked) (ws cs : List ℕ) (i : ℕ) → i < length asked → GotRecord (get_or (calls_on ws cs asked).got i nothing_got)
unfolding calls_on
got_record [] ws cs i h = absurd (not-suc-le-zero h)
got_record (a ∷ more) ws cs zero h =
    λ e. ap (λ (c : Crossed). c.said) (no_kind_nothing ws cs a e)
got_record (a ∷ more) ws cs (suc i) h = got_record more _ _ i (le_of_suc-le-suc h)

-- FROM ZERO WORDS
module _ (n : ℕ) (asked : List Asked) where
  zeros : calls_from_zeros n asked ≡ calls_on (words_of_record fresh_board) (fresh_store n).words asked
  zeros = λ i. calls_on (zero_record i) (zero_cells n i) asked

  fresh_words_lem : (calls_from_zeros n asked).words ≡ words_of_record (from_fresh n (calls_asked asked)).store.board
  fresh_words_lem = ap (λ (r : Called). r.words) zeros ∙ (same asked (fresh_store n) refl).words

  fresh_run : run_of (calls_from_zeros n asked) ≡ from_fresh n (calls_asked asked)
  fresh_run =
      let p : Run = from_fresh n (calls_asked asked) in
      let s = same asked (fresh_store n) refl in
      let board : record_of (calls_from_zeros n asked).words ≡ p.store.board =
      ap record_of fresh_words_lem ∙ record_words_lem p.store.board (run_full (fresh_store n) (calls_asked asked) refl) in
      let pairs : pairs_got (calls_from_zeros n asked).got ≡ p.pairs = ap (λ (r : Called). pairs_got r.got) zeros ∙ s.pairs in
      let cells : (calls_from_zeros n asked).cells ≡ p.store.words = ap (λ (r : Called). r.cells) zeros ∙ s.cells in
      λ i. record { pairs = pairs i; store = lent (board i) (cells i) }

pub calls_tell : CallsPromise
calls_tell n h l asked =
    record {
      each = each_asked asked _ _;
      history = fresh_run n asked;
      words = fresh_words_lem n asked;
      demand3 = subst Demand3 (sym (fresh_run n asked)) (demand3 n h l (calls_asked asked));
      others = got_record asked _ _;
    }

-- WHICH KINDS THESE ARE

is_named : {A : Type 0} (call : Call) → Some call ≡ None → A
is_named call e = absurd (let z : ◌≡◌ {A = ℕ} 0 1 = cc in omega arith)

is_kind : {A : Type 0} (kind : ℕ) → 0 < kind → kind ≤ 6 → (kind ≡ 0) ⊎ (6 < kind) → A
is_kind kind h l e = absurd (cases e (λ z. omega arith) (λ z. omega arith))

pub no_kind : NoKind
no_kind a = go a.kind
  where
    go : (kind : ℕ) → (call_named kind a.place a.key a.value ≡ None) ↔ ((kind ≡ 0) ⊎ (6 < kind))
    go zero = (λ _. inl refl, λ _. refl)
    go (suc zero) = (is_named (Call.Start a.place), is_kind 1 (omega arith) (omega arith))
    go (suc (suc zero)) = (is_named (Call.Read a.place a.key), is_kind 2 (omega arith) (omega arith))
    go (suc (suc (suc zero))) = (is_named (Call.Update a.place a.key a.value), is_kind 3 (omega arith) (omega arith))
    go (suc (suc (suc (suc zero)))) = (is_named (Call.Prepare a.place), is_kind 4 (omega arith) (omega arith))
    go (suc (suc (suc (suc (suc zero))))) = (is_named (Call.Commit a.place), is_kind 5 (omega arith) (omega arith))
    go (suc (suc (suc (suc (suc (suc zero)))))) = (is_named (Call.Rollback a.place), is_kind 6 (omega arith) (omega arith))
    go (suc (suc (suc (suc (suc (suc (suc kind))))))) = (λ _. inr (omega arith), λ _. refl)

-- EVERY ANSWER

pub calls_right : CallsRight
calls_right n h l asked before after x e = all_right n h l (calls_asked asked) before after x (sym (ap (λ (p : Run). p.pairs) (fresh_run n asked)) ∙ e)

pub calls_full : CallsFull
calls_full n h l asked before after x e = full_right n h l (calls_asked asked) before after x (sym (ap (λ (p : Run). p.pairs) (fresh_run n asked)) ∙ e)
