-- Bytes moved to the front: `copy_within` of std, from there on, is `put_at`.
-- Assumes nothing.
use mathlib.Core.Path.{◌≡◌, sym, ap, ◌∙◌}
use mathlib.Core.List.{List, ◌++◌}
use Prim.Native.Nat.{ℕ, ◌+◌, ◌-◌, ◌≤◌}
use native.Mathlib.Nat.{zero-add}
use native.Mathlib.Omega.{arith}
use lib.ListN.{length, take, drop}
use lib.Seq.{length-slice}
use Rattle.std.proofs.lemmas.List.{drop-take}
use Rattle.std.specs.List.{copy_within}
use Rattle.records.specs.Format.{put_at}
use Rattle.records.proofs.Bytes.{put_front}

pub moved : (l : List ℕ) (from to : ℕ) → from ≤ to → to ≤ length l → copy_within l from to 0 ≡ put_at l 0 (drop from (take to l))
moved l from to h k =
    let part : List ℕ = drop from (take to l) in
    let far : from + (to - from) ≡ to = omega arith in
    let there : take (to - from) (drop from l) ≡ part = sym (drop-take from (to - from) l) ∙ ap (λ (n : ℕ). drop from (take n l)) far in
    let long : length part ≡ to - from = length-slice from to l k in
    rw zero-add (ap (λ (m : List ℕ). m ++ drop (to - from) l) there) ∙ ap (λ (n : ℕ). part ++ drop n l) (sym long) ∙ sym (put_front l part)
