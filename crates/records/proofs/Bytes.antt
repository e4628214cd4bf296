-- Laws of bytes that know nothing of calls and answers:
--     and_..     what a test made of two says
--     gets       a part of the bytes one by one, as the code reads it
--     same_..    what `same_bytes` tests
--     bytes_..   a number in so many bytes, and the number that bytes are: inverse, at every width
--     .._low     the low bytes of a number, from the four that the library writes
--     put_..     a record put from an offset: what stands there, what stands elsewhere, one put behind another
-- Assumes nothing.
use mathlib.Core.Path.{◌≡◌, refl, sym, ap, ◌∙◌, subst}
use mathlib.Core.Bool.{Bool, true, false, ◌&&◌, and_assoc, false≢true}
use mathlib.Core.List.{List, [], ◌∷◌, ◌++◌, append_assoc, append-nil}
use Prim.Native.Nat.{ℕ, zero, suc, ◌+◌, ◌*◌, ◌-◌, ◌/◌, ◌%◌, ◌^◌, ◌≤◌, ◌<◌}
use native.Mathlib.Nat.{pow-suc, pow-zero, zero-add}
use native.Mathlib.Omega.{arith}
use borrow.Author.Tests.{eqb-true, eq-eqb}
use lib.Dec.{eqb}
use lib.ListN.{length, get_or, take, drop, length-append, length-drop, drop_of_length-le, take-append-drop, get_or-append}
use lib.Seq.{drop-cons, take_all, drop-drop, length-take-le, take_at, drop_at, get_or-take, get_or-drop}
use Rattle.records.specs.Format.{bytes_of, number_in, same_bytes, put_at}

-- TESTS

-- two tests that pass together are one
pub same_test : (s t : Bool) → (s ≡ true → t ≡ true) → (t ≡ true → s ≡ true) → s ≡ t
same_test true t f g = sym (f refl)
same_test false true f g = g refl
same_test false false f g = refl

pub and_left : (a b : Bool) → (a && b) ≡ true → a ≡ true
and_left true b e = refl
and_left false b e = e

pub and_right : (a b : Bool) → (a && b) ≡ true → b ≡ true
and_right true b e = e
and_right false b e = absurd (false≢true e)

pub both : {a b : Bool} → a ≡ true → b ≡ true → (a && b) ≡ true
both p q = cc

-- PARTS

-- k elements from index i on
abbrev pub gets : ℕ → List ℕ → ℕ → List ℕ
gets zero l i = []
gets (suc k) l i = get_or l i 0 ∷ gets k l (suc i)

pub part_gets : (k : ℕ) (l : List ℕ) (i : ℕ) → i + k ≤ length l → take k (drop i l) ≡ gets k l i
part_gets zero l i h = refl
part_gets (suc k) l i h =
    rw (drop-cons l i 0 (omega arith)) (ap (λ (r : List ℕ). get_or l i 0 ∷ r) (part_gets k l (suc i) (omega arith)))

-- each is a byte
abbrev pub AllBytes : List ℕ → Type 0
AllBytes [] = Unit
AllBytes (b ∷ bs) = (b < 256) × AllBytes bs

pub gets_all : (k : ℕ) (l : List ℕ) (i : ℕ) → ((j : ℕ) → get_or l j 0 < 256) → AllBytes (gets k l i)
gets_all zero l i h = tt
gets_all (suc k) l i h = (h i, gets_all k l (suc i) h)

pub gets_length : (k : ℕ) (l : List ℕ) (i : ℕ) → length (gets k l i) ≡ k
gets_length zero l i = refl
gets_length (suc k) l i = ap suc (gets_length k l (suc i))

-- THE SAME BYTES

-- bytes that pass are equal, and equal bytes pass
pub same_equal : (a b : List ℕ) → same_bytes a b ≡ true → a ≡ b
unfolding same_bytes
same_equal [] [] e = refl
same_equal [] (y ∷ b) e = absurd (false≢true e)
same_equal (x ∷ a) [] e = absurd (false≢true e)
same_equal (x ∷ a) (y ∷ b) e =
    let p : x ≡ y = eqb-true x y (and_left (eqb x y) (same_bytes a b) e) in
    let q : a ≡ b = same_equal a b (and_right (eqb x y) (same_bytes a b) e) in
    cc

pub same_self : (a : List ℕ) → same_bytes a a ≡ true
unfolding same_bytes
same_self [] = refl
same_self (x ∷ a) = rw (eq-eqb x x refl) (same_self a)

-- part by part
pub same_append : (a b c d : List ℕ) → length a ≡ length c →
    same_bytes (a ++ b) (c ++ d) ≡ (same_bytes a c && same_bytes b d)
unfolding same_bytes
same_append [] b [] d e = refl
same_append [] b (y ∷ c) d e = absurd (omega arith)
same_append (x ∷ a) b [] d e = absurd (omega arith)
same_append (x ∷ a) b (y ∷ c) d e =
    rw (same_append a b c d (omega arith)) (sym (and_assoc (eqb x y) (same_bytes a c) (same_bytes b d)))

-- NUMBERS

pub bytes_length : (k n : ℕ) → length (bytes_of k n) ≡ k
bytes_length zero n = refl
bytes_length (suc k) n = ap suc (bytes_length k (n / 256))

pub bytes_all : (k n : ℕ) → AllBytes (bytes_of k n)
bytes_all zero n = tt
bytes_all (suc k) n = (omega arith, bytes_all k (n / 256))

-- a number that goes into k bytes is the number that they are
pub bytes_back : (k n : ℕ) → n < 256 ^ k → number_in (bytes_of k n) ≡ n
bytes_back zero n h = omega (arith, pow-zero 256)
bytes_back (suc k) n h =
    let e : 256 ^ suc k ≡ 256 ^ k * 256 = pow-suc 256 k in
    let ih : number_in (bytes_of k (n / 256)) ≡ n / 256 = bytes_back k (n / 256) (omega arith) in
    omega arith

-- bytes are those of the number that they are
pub bytes_again : (bs : List ℕ) → AllBytes bs → bytes_of (length bs) (number_in bs) ≡ bs
bytes_again [] h = refl
bytes_again (b ∷ bs) h =
    let p : (b + 256 * number_in bs) % 256 ≡ b = omega (arith, h.0) in
    let q : (b + 256 * number_in bs) / 256 ≡ number_in bs = omega (arith, h.0) in
    let ih : bytes_of (length bs) (number_in bs) ≡ bs = bytes_again bs h.1 in
    cc

-- and it goes into them
pub bytes_below : (bs : List ℕ) → AllBytes bs → number_in bs < 256 ^ length bs
bytes_below [] h = omega (arith, pow-zero 256)
bytes_below (b ∷ bs) h =
    let e : 256 ^ suc (length bs) ≡ 256 ^ length bs * 256 = pow-suc 256 (length bs) in
    let ih : number_in bs < 256 ^ length bs = bytes_below bs h.1 in
    omega (arith, h.0)

-- bytes are a number's exactly if the number is theirs
pub same_number : (bs : List ℕ) (n : ℕ) → AllBytes bs → n < 256 ^ length bs →
    same_bytes bs (bytes_of (length bs) n) ≡ eqb (number_in bs) n
same_number bs n h g =
    same_test (same_bytes bs (bytes_of (length bs) n)) (eqb (number_in bs) n)
    (λ e. eq-eqb (number_in bs) n (ap number_in (same_equal bs (bytes_of (length bs) n) e) ∙ bytes_back (length bs) n g))
    (λ e.
    let m = sym (bytes_again bs h) ∙ ap (λ (k : ℕ). bytes_of (length bs) k) (eqb-true (number_in bs) n e) in
    subst (λ (l : List ℕ). same_bytes bs l ≡ true) m (same_self bs))

-- the low bytes of a number, as the library writes its four
abbrev pub four_of : ℕ → List ℕ
four_of n = n % 256 ∷ (n / 256 % 256 ∷ (n / 65536 % 256 ∷ (n / 16777216 % 256 ∷ [])))

pub one_low : (l : List ℕ) (n : ℕ) → l ≡ four_of n → (get_or l 0 0 ∷ []) ≡ bytes_of 1 n
one_low l n e = rw e

pub two_low : (l : List ℕ) (n : ℕ) → l ≡ four_of n → (get_or l 0 0 ∷ (get_or l 1 0 ∷ [])) ≡ bytes_of 2 n
two_low l n e = rw e

pub four_low : (l : List ℕ) (n : ℕ) → l ≡ four_of n →
    (get_or l 0 0 ∷ (get_or l 1 0 ∷ (get_or l 2 0 ∷ (get_or l 3 0 ∷ [])))) ≡ bytes_of 4 n
four_low l n e =
    let third : n / 65536 ≡ n / 256 / 256 = omega arith in
    let fourth : n / 16777216 ≡ n / 256 / 256 / 256 = omega arith in
    rw (e, third, fourth)

-- PUTTING A RECORD

-- the part from an offset on, as it is lent
pub part_rest : (l : List ℕ) (i : ℕ) → take (length l - i) (drop i l) ≡ drop i l
part_rest l i = take_all (length l - i) (drop i l) (omega (arith, length-drop i l))

-- written out
pub put_is : (l : List ℕ) (at : ℕ) (rec : List ℕ) → put_at l at rec ≡ take at l ++ (rec ++ drop (at + length rec) l)
unfolding put_at
put_is l at rec = refl

-- at the front
pub put_front : (l rec : List ℕ) → put_at l 0 rec ≡ rec ++ drop (length rec) l
unfolding put_at
put_front l rec = rw zero-add

-- a record put into the part from an offset on, with the part put back, is put from the offset
pub put_part : (l : List ℕ) (at : ℕ) (rec part : List ℕ) → part ≡ put_at (take (length l - at) (drop at l)) 0 rec →
    take at l ++ (part ++ drop (length l - at) (drop at l)) ≡ put_at l at rec
unfolding put_at
put_part l at rec part e =
    let past : length (drop at l) ≤ length l - at = omega (arith, length-drop at l) in
    let rest : drop (length l - at) (drop at l) ≡ [] = drop_of_length-le (drop at l) past in
    let whole : part ≡ rec ++ drop (at + length rec) l = e
    ∙ ap (λ (p : List ℕ). put_at p 0 rec) (part_rest l at)
    ∙ put_front (drop at l) rec
    ∙ ap (λ (p : List ℕ). rec ++ p) (drop-drop (length rec) at l) in
    rw (rest, append-nil, whole)

module _ (l : List ℕ) (at : ℕ) (rec : List ℕ) (room : at + length rec ≤ length l) where
  -- up to the record's end, and from there on
  put_split : put_at l at rec ≡ (take at l ++ rec) ++ drop (at + length rec) l
  unfolding put_at
  put_split = sym (append_assoc (take at l) rec (drop (at + length rec) l))

  put_head_length : length (take at l ++ rec) ≡ at + length rec
  put_head_length = simp (length-append, length-take-le at l (omega arith))

  pub put_take : take (at + length rec) (put_at l at rec) ≡ take at l ++ rec
  put_take = rw put_split (take_at (take at l ++ rec) (drop (at + length rec) l) (at + length rec) put_head_length)

  pub put_drop : drop (at + length rec) (put_at l at rec) ≡ drop (at + length rec) l
  put_drop = rw put_split (drop_at (take at l ++ rec) (drop (at + length rec) l) (at + length rec) put_head_length)

  pub put_length : length (put_at l at rec) ≡ length l
  put_length =
      let n : ℕ = at + length rec in
      rw put_split (length-append (take at l ++ rec) (drop n l) ∙ rw (put_head_length, length-drop) (omega arith))

  -- the record stands there
  pub put_there : take (length rec) (drop at (put_at l at rec)) ≡ rec
  unfolding put_at
  put_there =
      rw (drop_at (take at l) (rec ++ drop (at + length rec) l) at (length-take-le at l (omega arith)))
      (take_at rec (drop (at + length rec) l) (length rec) refl)

  -- every other byte is as it was
  pub put_before : (i : ℕ) → i < at → get_or (put_at l at rec) i 0 ≡ get_or l i 0
  unfolding put_at
  put_before i h =
      get_or-append (take at l) (rec ++ drop (at + length rec) l) 0 i (omega (arith, length-take-le at l (omega arith)))
      ∙ get_or-take at l i 0 h

  pub put_behind : (i : ℕ) → at + length rec ≤ i → get_or (put_at l at rec) i 0 ≡ get_or l i 0
  put_behind i h =
      let e : at + length rec + (i - (at + length rec)) ≡ i = omega arith in
      let f : (m : List ℕ) → get_or m i 0 ≡ get_or (drop (at + length rec) m) (i - (at + length rec)) 0 = λ m.
      sym (get_or-drop (at + length rec) m (i - (at + length rec)) 0 ∙ ap (λ (j : ℕ). get_or m j 0) e) in
      f (put_at l at rec) ∙ ap (λ (m : List ℕ). get_or m (i - (at + length rec)) 0) put_drop ∙ sym (f l)

  -- a record put behind it makes one with it
  pub put_next : (next : List ℕ) → put_at (put_at l at rec) (at + length rec) next ≡ put_at l at (rec ++ next)
  put_next next =
      let n : ℕ = at + length rec in
      let behind : drop (n + length next) (put_at l at rec) ≡ drop (n + length next) l =
      sym (drop-drop (length next) n (put_at l at rec))
      ∙ ap (λ (m : List ℕ). drop (length next) m) put_drop
      ∙ drop-drop (length next) n l in
      let size : at + length (rec ++ next) ≡ n + length next = omega (arith, length-append rec next) in
      put_is (put_at l at rec) n next
      ∙ rw (put_take, behind, put_is l at (rec ++ next), size) (simp append_assoc)

-- a record that stands there already changes nothing
pub put_same : (l : List ℕ) (at : ℕ) (rec : List ℕ) → take (length rec) (drop at l) ≡ rec → put_at l at rec ≡ l
put_same l at rec e =
    put_is l at rec
    ∙ ap (λ (r : List ℕ). take at l ++ (r ++ drop (at + length rec) l)) (sym e)
    ∙ rw (← drop-drop (length rec) at l, take-append-drop, take-append-drop)
