use Rattle.std.proofs.Common.{◌≡◌, true, false, sym, ap, ◌∙◌, ◌∷◌, ◌++◌, drop, arith, inl, inr, Ok}
use Rattle.records.specs.Format.{bytes_of, reply_fits, answer_record, wrote}
use Rattle.records.proofs.Bytes.{put_front, one_low, four_low}
use Rattle.records.proofs.RoundTrip.{ok_from, refused}
use Rattle.records.proofs.ReplyRecord.put.Goals as goal

pub returns-then-s-lt-ANSWER_BYTES : goal.returns-then-s-lt-ANSWER_BYTES
unfolding answer_record
returns-then-s-lt-ANSWER_BYTES c = sym (refused _ c.args.s.now 0 (answer_record c.args.self) (inr (omega arith)))

pub returns-then-not-goes_in : goal.returns-then-not-goes_in
returns-then-not-goes_in c =
    let has : reply_fits c.args.self ≡ false = cc (c.goes_in.ensures, c.value.ensures, c.if-not-goes_in.true) in
    sym (refused _ c.args.s.now 0 (answer_record c.args.self) (inl has))

pub returns : goal.returns
unfolding answer_record
returns c =
    let has : reply_fits c.args.self ≡ true = cc (c.goes_in.ensures, c.value.ensures, c.if-not-goes_in.false) in
    let number = c.number-no.ensures in
    let place = one_low _ _ c.to_le_bytes.ensures in
    let value = four_low _ _ c.to_le_bytes-2.ensures ∙ ap (bytes_of 4) c.value-2.ensures in
    ap (λ l. wrote (Ok 0) (l ++ drop 8 c.args.s.now))
    (c.copy_from_slice.ensures.after ∙ (λ i. 0x41 ∷ (0x4E ∷ (number i ∷ (place i ++ value i)))))
    ∙ ap (wrote (Ok 0)) (sym (put_front c.args.s.now (answer_record c.args.self)))
    ∙ sym (ok_from _ c.args.s.now 0 (answer_record c.args.self) has (omega arith))
