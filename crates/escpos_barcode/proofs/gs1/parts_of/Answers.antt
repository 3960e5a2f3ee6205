use Rattle.std.proofs.Common.{◌+◌, length, get_or, drop, sym, ap, ◌∙◌, arith, true, false, Bool}
use Rattle.escpos_barcode.proofs.ReadingGs1.{escaped_next, brace_next, plain_next}
use Rattle.escpos_barcode.proofs.Parts.{from_place}
use Rattle.escpos_barcode.specs.Chains.{joined}
use Rattle.escpos_barcode.specs.Gs1.{parts_after}
use Rattle.escpos_barcode.proofs.gs1.parts_of.Goals as goal
use Rattle.escpos_barcode.proofs.gs1.parts_of.Goals.{then-after_brace+in_ok-escaped_part, else-after_brace+then-byte-eq123, else-after_brace+else-byte-eq123+in_ok-plain_part}

pub loop-byte-preserved : goal.loop-byte-preserved
loop-byte-preserved c =
    let here = from_place c.args.content.now c.loop-byte.byte-index 0 (omega arith) in
    let left = drop (c.loop-byte.byte-index + 1) c.args.content.now in
    let byte = get_or c.args.content.now c.loop-byte.byte-index 0 in
    let so_far = c.loop-byte.invariant.whole in
    let parts = c.loop-byte.parts.items in
    elim c.if-after_brace.branch [
      | then-after_brace+in_ok-escaped_part w ↦ rw (w.parts-is, w.after_brace-is, w.push.ensures.items) record {
        whole =
            so_far ∙ ap (λ (b : Bool). joined parts (parts_after b (drop c.loop-byte.byte-index c.args.content.now))) w.if-after_brace.true
            ∙ ap (λ xs. joined parts (parts_after true xs)) here ∙ escaped_next parts byte left w.in_ok-escaped_part.field-0 (sym w.escaped_part.ensures ∙ w.in_ok-escaped_part.was);
        few = let longer = ap length w.push.ensures.items in let one = w.push.ensures.len in let near = c.loop-byte.invariant.few in omega arith;
      }
      | else-after_brace+then-byte-eq123 w ↦ rw (w.parts-is, w.after_brace-is) record {
        whole =
            so_far ∙ ap (λ (b : Bool). joined parts (parts_after b (drop c.loop-byte.byte-index c.args.content.now))) w.if-after_brace.false
            ∙ ap (λ xs. joined parts (parts_after false xs)) here ∙ brace_next parts byte left w.if-byte-eq123.true;
        few = let near = c.loop-byte.invariant.few in omega arith;
      }
      | else-after_brace+else-byte-eq123+in_ok-plain_part w ↦ rw (w.parts-is, w.after_brace-is, w.if-after_brace.false, w.push-else-byte-eq123.ensures.items) record {
        whole =
            so_far ∙ ap (λ (b : Bool). joined parts (parts_after b (drop c.loop-byte.byte-index c.args.content.now))) w.if-after_brace.false
            ∙ ap (λ xs. joined parts (parts_after false xs)) here
            ∙ plain_next parts byte left w.in_ok-plain_part.field-0 w.if-byte-eq123.false (sym w.plain_part.ensures ∙ w.in_ok-plain_part.was);
        few = let longer = ap length w.push-else-byte-eq123.ensures.items in let one = w.push-else-byte-eq123.ensures.len in let near = c.loop-byte.invariant.few in omega arith;
      }
    ]
