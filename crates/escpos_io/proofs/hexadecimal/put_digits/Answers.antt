-- The digits of each part are given after those before it; where there was no room for one, the digits so far are a
-- prefix of all.
use Rattle.std.proofs.Common.{◌≡◌, ◌++◌, [], Ok, Err, refl, sym, ◌∙◌, ap, append-nil, append_assoc, arith}
use Rattle.std.specs.Slice.Iter.{chunks_rest, chunks_size}
use Rattle.hex.specs.Hex.{encode_lower}
use Rattle.escpos_io.proofs.Digits.{digits_append, no_digits}
use Rattle.escpos_io.proofs.Giving.{given_appended, given_in_the_front, given_in_turn}
use Rattle.escpos_io.proofs.hexadecimal.put_digits.Goals as goal

pub loop-part-init : goal.loop-part-init
loop-part-init g c =
    let kept = c.args.gather.now.kept in
    let begins = c.into_iter-part-iterator.ensures.into_iter_gives in
    let size : chunks_size c.into_iter-part-iterator.result ≡ 256 = ap chunks_size begins ∙ c.chunks-part-items.ensures.size in
    record {
      can_next = omega arith;
      is_finite = tt;
      size = size;
      so_far = record {
        done = [];
        whole = sym (ap chunks_rest begins ∙ c.chunks-part-items.ensures.rest);
        given = given_appended _ _ _ _ _ (sym (ap (λ t. kept ++ t) no_digits ∙ append-nil kept)) refl;
      };
    }

pub returns-in_err-room : goal.returns-in_err-room
returns-in_err-room g c =
    let far = c.loop-part.invariant.so_far in
    let front = encode_lower far.done in
    let rest = chunks_rest c.loop-part.part-iterator in
    let stopped = given_in_turn (Err c.in_err-room.field-0.0) _ _ _ _ _ _ _ _ _ front [] front far.given c.in_err-room.ensures.given
    (sym (append-nil front)) in
    given_in_the_front c.from_residual.result c.in_err-room.field-0.0 _ _ _ front (encode_lower rest) _ c.from_residual.ensures.1 stopped
    (ap encode_lower far.whole ∙ digits_append far.done rest)

pub loop-part-preserved : goal.loop-part-preserved
loop-part-preserved g c =
    let far = c.loop-part.invariant.so_far in
    let front = encode_lower far.done in
    let part = c.in-Some.part.now in
    let steps = c.in-Some.ensures.steps in
    let ready = given_in_turn (Ok tt) _ _ _ _ _ _ _ _ _ front [] front far.given c.in_ok-room.ensures.given (sym (append-nil front)) in
    let added = given_appended (g.W.ByteOut.written c.room.new.writer) (g.W.ByteOut.failed c.room.new.writer) _ _ (encode_lower part)
    c.append_digits.ensures.kept c.append_digits.ensures.same_count in
    let size : chunks_size c.next.new.self ≡ 256 = steps.0 ∙ c.loop-part.invariant.size in
    record {
      can_next = omega arith;
      is_finite = tt;
      size = size;
      so_far = record {
        done = far.done ++ part;
        whole = far.whole ∙ ap (λ t. far.done ++ t) steps.1.0 ∙ sym (append_assoc far.done part (chunks_rest c.next.new.self));
        given = given_in_turn (Ok tt) _ _ _ _ _ _ _ _ _ front (encode_lower part) _ ready added (digits_append far.done part);
      };
    }
