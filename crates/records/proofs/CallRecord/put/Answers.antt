use Rattle.std.proofs.Common.{◌≡◌, true, false, sym, ap, ◌∙◌, ◌∷◌, ◌++◌, drop, arith, inl, inr, Ok}
use Rattle.records.specs.Format.{bytes_of, call_fits, call_record, wrote}
use Rattle.records.proofs.Bytes.{put_front, one_low, two_low, four_low}
use Rattle.records.proofs.RoundTrip.{ok_from, refused}
use Rattle.records.proofs.CallRecord.put.Goals as goal

pub returns-then-s-lt-CALL_BYTES : goal.returns-then-s-lt-CALL_BYTES
unfolding call_record
returns-then-s-lt-CALL_BYTES c = sym (refused _ c.args.s.now 0 (call_record c.args.self) (inr (omega arith)))

pub returns-then-not-goes_in : goal.returns-then-not-goes_in
returns-then-not-goes_in c =
    let has : call_fits c.args.self ≡ false =
    cc (c.goes_in.ensures, c.place_of.ensures, c.key_of.ensures, c.new_value_of.ensures, c.if-not-goes_in.true) in
    sym (refused _ c.args.s.now 0 (call_record c.args.self) (inl has))

pub returns : goal.returns
unfolding call_record
returns c =
    let has : call_fits c.args.self ≡ true =
    cc (c.goes_in.ensures, c.place_of.ensures, c.key_of.ensures, c.new_value_of.ensures, c.if-not-goes_in.false) in
    let kind = c.kind_of-kind.ensures in
    let place = one_low _ _ c.to_le_bytes.ensures ∙ ap (bytes_of 1) c.place_of-2.ensures in
    let key = two_low _ _ c.to_le_bytes-2.ensures ∙ ap (bytes_of 2) c.key_of-2.ensures in
    let value = four_low _ _ c.to_le_bytes-3.ensures ∙ ap (bytes_of 4) c.new_value_of-2.ensures in
    ap (λ l. wrote (Ok 0) (l ++ drop 10 c.args.s.now))
    (c.copy_from_slice.ensures.after ∙ (λ i. 0x43 ∷ (0x4C ∷ (kind i ∷ (place i ++ (key i ++ value i))))))
    ∙ ap (wrote (Ok 0)) (sym (put_front c.args.s.now (call_record c.args.self)))
    ∙ sym (ok_from _ c.args.s.now 0 (call_record c.args.self) has (omega arith))
