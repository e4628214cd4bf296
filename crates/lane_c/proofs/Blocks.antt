-- Blocks of words, of any width: laws of lists that know nothing of places.
--     length_blocks, block_at            how many blocks there are, and what stands in one
--     blocks_std, each_std, made         what `as_chunks`, `all` and `from_fn` of std give
--     length_written, blocks_written     values written one behind another: how many words they take, and that their blocks are theirs
--     written_turn                       a turn that writes value i
--     written_blocks                     what was read from blocks and is written again is the words
--     reads_last, stores_last            words read, and stored, one by one to the end
-- Assumes nothing.
use mathlib.Core.Path.{◌≡◌, refl, sym, ap, ◌∙◌, subst}
use mathlib.Core.Logic.{⊎_elim}
use mathlib.Core.Bool.{Bool, true, ◌&&◌}
use mathlib.Core.List.{List, [], ◌∷◌, ◌++◌, map, flat_map, append_assoc, append-nil}
use Prim.Native.Nat.{ℕ, zero, suc, ◌+◌, ◌*◌, ◌<◌, ◌≤◌}
use native.Mathlib.Nat.{eq-or-lt_of_le, mul-suc, mul-zero}
use native.Mathlib.Numerals.{add-one}
use native.Mathlib.Omega.{arith}
use lib.ListN.{length, get_or, take, drop, length-append, length-drop, length-map, drop_of_length-le, get_or-map}
use lib.Seq.{take_all, take-add, take_at, drop_at, drop-drop, length-take-le, sets, sets-eq}
use Rattle.std.proofs.lemmas.List.{ext_get_or}
use Rattle.std.specs.Array.{IsFromFnResult, IsFromFnResultFrom}
use Rattle.std.specs.Fn.{Called, Mut}
use Rattle.std.specs.List.{list_all}
use Rattle.std.specs.Simd.{first_chunks}
use Rattle.records.proofs.Bytes.{gets, part_gets}
use Rattle.steps.proofs.Tests.{and_left, and_right}
use Rattle.lane_c.specs.Words.{blocks, each}

-- where the next block begins
next : (w i : ℕ) → w * suc i ≡ w + w * i
next w i = let e = mul-suc w i in omega arith

module _ (w : ℕ) where
  pub length_blocks : (n : ℕ) (l : List ℕ) → length (blocks w n l) ≡ n
  unfolding blocks
  length_blocks zero l = refl
  length_blocks (suc n) l = ap suc (length_blocks n (drop w l))

  pub block_at : (n i : ℕ) (l d : List ℕ) → i < n → get_or (blocks w n l) i d ≡ take w (drop (w * i) l)
  unfolding blocks
  block_at zero i l d h = absurd (omega arith)
  block_at (suc n) zero l d h = rw mul-zero
  block_at (suc n) (suc i) l d h =
      block_at n i (drop w l) d (omega arith)
      ∙ ap (λ (r : List ℕ). take w r) (drop-drop (w * i) w l ∙ ap (λ (k : ℕ). drop k l) (sym (next w i)))

  -- blocks are what `as_chunks` of std gives, and a test of each is its `all`
  pub blocks_std : (n : ℕ) (l : List ℕ) → first_chunks w n l ≡ blocks w n l
  unfolding blocks
  blocks_std zero l = refl
  blocks_std (suc n) l = ap (λ (r : List (List ℕ)). take w l ∷ r) (blocks_std n (drop w l))

pub each_std : (f : List ℕ → Bool) (l : List (List ℕ)) → list_all f l ≡ each f l
unfolding each
each_std f [] = refl
each_std f (b ∷ bs) = ap (λ (t : Bool). f b && t) (each_std f bs)

-- `array::from_fn` of std over the elements of a list, where a call leaves the closure as it is
module _ {F A B : Type 0} (g : Mut F (ℕ × Unit {0}) B) (f : F) (ys : List B) (h : A → B) (xs : List A) (d : A) (len : ℕ)
    (same : (i : ℕ) (y : B) (q : F) → i < len → Called g f (i, tt) y q → (q ≡ f) × (y ≡ h (get_or xs i d))) where
  made_from : (n i k : ℕ) (p : F) → p ≡ f → IsFromFnResultFrom g p ys i n → i + n ≤ len → i ≤ k → k < i + n
      → get_or ys k (h d) ≡ h (get_or xs k d)
  made_from zero i k p e r top low high = absurd (omega arith)
  made_from (suc n) i k p e (q, y, at, called, more) top low high =
      let t : (q ≡ f) × (y ≡ h (get_or xs i d)) = same i y q (omega arith) (subst (λ (x : F). Called g x (i, tt) y q) e called) in
      ⊎_elim
      (λ here. ap (λ (j : ℕ). get_or ys j (h d)) (sym here) ∙ at.1 (h d) ∙ t.1 ∙ ap (λ (j : ℕ). h (get_or xs j d)) here)
      (λ past. made_from n (i + 1) k q t.0 more (omega arith) (omega arith) (omega arith))
      (eq-or-lt_of_le low)

  pub made : length xs ≡ len → IsFromFnResult g f ys len → ys ≡ map h xs
  made l r =
      ext_get_or (h d) ys (map h xs) (r.long ∙ sym l ∙ sym (length-map xs h))
      (λ k lt. made_from len 0 k f refl r.each (omega arith) (omega arith) (omega (arith, r.long)) ∙ sym (get_or-map h xs k d))

-- values written one behind another, each in a block
module _ {A : Type 0} (w : ℕ) (f : A → List ℕ) (wide : (a : A) → length (f a) ≡ w) where
  pub length_written : (xs : List A) → length (flat_map f xs) ≡ w * length xs
  unfolding flat_map
  length_written [] = sym (mul-zero w)
  length_written (x ∷ xs) = omega (arith, length-append (f x) (flat_map f xs), wide x, length_written xs, next w (length xs))

  pub blocks_written : (xs : List A) (past : List ℕ) → blocks w (length xs) (flat_map f xs ++ past) ≡ map f xs
  unfolding blocks flat_map
  blocks_written [] past = refl
  blocks_written (x ∷ xs) past =
      let rest = flat_map f xs ++ past in
      let a : (f x ++ flat_map f xs) ++ past ≡ f x ++ rest = append_assoc (f x) (flat_map f xs) past in
      rw (a, take_at (f x) rest w (wide x), drop_at (f x) rest w (wide x), blocks_written xs past)

  written_next : (xs : List A) (i : ℕ) (d : A) → i < length xs
      → flat_map f (take (suc i) xs) ≡ flat_map f (take i xs) ++ f (get_or xs i d)
  unfolding flat_map
  written_next [] i d h = absurd (omega arith)
  written_next (x ∷ xs) zero d h = append-nil (f x)
  written_next (x ∷ xs) (suc i) d h =
      ap (λ (r : List ℕ). f x ++ r) (written_next xs i d (omega arith))
      ∙ sym (append_assoc (f x) (flat_map f (take i xs)) (f (get_or xs i d)))

  pub written_turn : (l : List ℕ) (b rest : List ℕ) (xs : List A) (i : ℕ) (d : A) → w * i ≤ length l → i < length xs
      → take (w * i) l ≡ flat_map f (take i xs) → b ≡ f (get_or xs i d)
      → take (w * (i + 1)) (take (w * i) l ++ (b ++ rest)) ≡ flat_map f (take (i + 1) xs)
  written_turn l b rest xs i d hl hx e g =
      let k : length (take (w * i) l ++ b) ≡ w * suc i =
      length-append (take (w * i) l) b
      ∙ omega (arith, length-take-le (w * i) l hl, ap length g, wide (get_or xs i d), next w i)
      in
      rw add-one
      (ap (λ (r : List ℕ). take (w * suc i) r) (sym (append_assoc (take (w * i) l) b rest))
      ∙ take_at (take (w * i) l ++ b) rest (w * suc i) k
      ∙ (λ j. e j ++ g j)
      ∙ sym (written_next xs i d hx))

  -- read from blocks, and written again
  module _ (g : List ℕ → A) (t : List ℕ → Bool) (same : (b : List ℕ) → length b ≡ w → t b ≡ true → f (g b) ≡ b) where
    pub written_blocks : (n : ℕ) (l : List ℕ) → w * n ≤ length l → each t (blocks w n l) ≡ true
        → flat_map f (map g (blocks w n l)) ≡ take (w * n) l
    unfolding blocks each flat_map
    written_blocks zero l h e = rw mul-zero
    written_blocks (suc n) l h e =
        let bs = blocks w n (drop w l) in
        let k : w + w * n ≤ length l = omega (arith, next w n) in
        let b : f (g (take w l)) ≡ take w l =
        same (take w l) (length-take-le w l (omega arith)) (and_left (t (take w l)) (each t bs) e)
        in
        let r : flat_map f (map g bs) ≡ take (w * n) (drop w l) =
        written_blocks n (drop w l) (omega (arith, length-drop w l)) (and_right (t (take w l)) (each t bs) e)
        in
        (λ j. b j ++ r j) ∙ sym (take-add w (w * n) l) ∙ ap (λ (k : ℕ). take k l) (sym (next w n))

-- words read one by one to the end
pub reads_last : (n : ℕ) (l : List ℕ) (i : ℕ) → length l ≡ i + n → gets n l i ≡ drop i l
reads_last n l i h = sym (part_gets n l i (omega arith)) ∙ take_all n (drop i l) (omega (arith, length-drop i l))

-- words stored one by one to the end
pub stores_last : (vs l : List ℕ) (i : ℕ) → length l ≡ i + length vs → sets l i vs ≡ take i l ++ vs
stores_last vs l i h =
    sets-eq vs l i (omega arith)
    ∙ ap (λ (r : List ℕ). (take i l ++ vs) ++ r) (drop_of_length-le l {i = i + length vs} (omega arith))
    ∙ append-nil (take i l ++ vs)
