use Rattle.std.proofs.Common.{◌≡◌, ◌+◌, ◌*◌, ◌++◌, [], sym, ◌∙◌, ap, append-nil, append_assoc, take, drop, get_or, arith}
use Rattle.std.proofs.lemmas.List.{at_drop_more, drop_all}
use Rattle.escpos_picture.specs.Spans.{row_spans, spans_text, passed}
use Rattle.escpos_picture.specs.ByteSpans.{byte_step, white_after}
use Rattle.escpos_picture.proofs.RowSteps.{next_text, next_passed, after_small}
use Rattle.escpos_picture.proofs.short_row.append_spans.Goals as goal

pub loop-byte-preserved : goal.loop-byte-preserved
loop-byte-preserved c =
    let l = c.loop-byte in
    let row = c.args.row.now in
    let byte = get_or row l.byte-index 0 in
    let rest = drop (l.byte-index + 1) row in
    let waiting = take l.end l.bytes in
    let after = white_after l.white byte in
    let left = spans_text (row_spans (8 * after) rest) in
    let white : c.append_byte.result.1 ≡ after = c.append_byte.ensures.white in
    let text = at_drop_more (λ bytes. spans_text (row_spans (8 * l.white) bytes)) row l.byte-index 0 c.loop-byte-test.true ∙ next_text l.white byte rest in
    let here = at_drop_more (λ bytes. passed (row_spans (8 * l.white) bytes)) row l.byte-index 0 c.loop-byte-test.true in
    let next = next_passed l.white byte rest in
    let same : passed (row_spans (8 * c.append_byte.result.1) rest) ≡ passed (row_spans (8 * after) rest) = ap (λ n. passed (row_spans (8 * n) rest)) white in
    let small = after_small l.white byte in
    let way = l.invariant.way in
    let near = l.invariant.near in
    let room = l.invariant.room in
    let few = c.append_byte.ensures.len in
    record {
      so_far = l.invariant.so_far ∙ ap (λ t. waiting ++ t) text ∙ sym (append_assoc waiting (byte_step l.white byte) left)
          ∙ ap (λ t. t ++ left) (sym c.append_byte.ensures.text)
          ∙ ap (λ n. take c.append_byte.result.0 c.append_byte.new.bytes ++ spans_text (row_spans (8 * n) rest)) (sym white);
      way = omega (arith, way, here, next, same, white);
      near = omega (arith, small, white, near);
      room = omega (arith, room, few);
    }

pub returns : goal.returns
returns c =
    let l = c.loop-byte in
    let row = c.args.row.now in
    let none : drop l.byte-index row ≡ [] = drop_all l.byte-index row (omega (arith, c.loop-byte-test.false)) in
    let all : passed (row_spans (8 * l.white) (drop l.byte-index row)) ≡ 0 = ap (λ bytes. passed (row_spans (8 * l.white) bytes)) none in
    let way = l.invariant.way in
    let near = l.invariant.near in
    let room = l.invariant.room in
    record {
      text = sym (l.invariant.so_far ∙ ap (λ bytes. take l.end l.bytes ++ spans_text (row_spans (8 * l.white) bytes)) none ∙ append-nil (take l.end l.bytes));
      len = omega (arith, room);
      passed = omega (arith, way, all, near);
      within = omega arith;
    }
