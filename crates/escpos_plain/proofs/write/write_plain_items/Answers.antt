-- The lines are given one after another, and then put.
use Rattle.std.proofs.Common.{◌+◌, ◌<◌, ◌≤◌, ◌^◌, ◌++◌, [], length, take, drop, arith, ◌∙◌, ap, subst, append-nil}
use Rattle.std.proofs.lemmas.Result.{err_from_is_err_and, IfErr-weaker, on_ok_weaker}
use Rattle.std.specs.List.{flat_map}
use Rattle.std.specs.Io.KnownBytes.{Appends}
use Rattle.escpos_io.specs.Gather.{StopsIn}
use Rattle.escpos_io.proofs.PieceLists.{one_more, all_pieces, front_and_rest}
use Rattle.escpos_plain.specs.PlainText.{plain_text}
use Rattle.escpos_plain.proofs.write.write_plain_items.Goals as goal

pub returns-in_err-put_plain_item : goal.returns-in_err-put_plain_item
returns-in_err-put_plain_item g c =
    let items = c.args.items.now in
    let i = c.loop-item.item-index in
    let item = c.item-item.result in
    let inside : i < length items = omega arith in
    let rest = flat_map plain_text (drop (i + 1) items) in
    let few = c.loop-item.invariant.few in
    let p = err_from_is_err_and c.from_residual.result c.from_residual.ensures.1 in
    let stops = c.in_err-put_plain_item.ensures.err _ _ rest c.loop-item.invariant.carried (omega (arith, few)) in
    rw (p.1, p.2) (record {
      ok = tt;
      err = subst (λ v. StopsIn (g.W.ByteOut.written c.args.writer.now) (g.W.ByteOut.written c.put_plain_item.new.writer) v c.in_err-put_plain_item.field-0.0.written)
          (ap (λ v. v ++ rest) (one_more plain_text items i item inside c.item-item.is) ∙ front_and_rest plain_text items (i + 1)) stops;
      failed = c.in_err-put_plain_item.ensures.failed;
      not_failed = tt;
    })

pub returns : goal.returns
returns g c =
    let items = c.args.items.now in
    let i = c.loop-item.item-index in
    let all : length items ≤ i = omega arith in
    let few = c.loop-item.invariant.few in
    let short : length (flat_map plain_text (take i items)) < 2 ^ 128 = omega arith in
    record {
      ok = on_ok_weaker c.flush.result
          (λ h. subst (Appends (g.W.ByteOut.written c.args.writer.now) (g.W.ByteOut.written c.flush.new.writer)) (all_pieces plain_text items i all)
          (h _ _ c.loop-item.invariant.carried)) c.flush.ensures.ok;
      err = IfErr-weaker c.flush.result _ _ (λ device stops. subst (λ v. StopsIn (g.W.ByteOut.written c.args.writer.now) (g.W.ByteOut.written c.flush.new.writer) v device.written)
          (append-nil _ ∙ append-nil _ ∙ all_pieces plain_text items i all)
          (stops _ _ [] c.loop-item.invariant.carried (simp append-nil short))) c.flush.ensures.given.err;
      failed = c.flush.ensures.given.failed;
      not_failed = on_ok_weaker c.flush.result (λ h well. h (c.loop-item.invariant.not_failed well)) c.flush.ensures.given.not_failed;
    }
