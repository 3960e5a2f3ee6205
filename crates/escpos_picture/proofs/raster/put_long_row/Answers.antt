use Rattle.std.proofs.Common.{◌≡◌, ◌+◌, ◌-◌, ◌*◌, ◌++◌, [], sym, ◌∙◌, ap, append-nil, append_assoc, drop, get_or, length, arith}
use Rattle.std.proofs.lemmas.List.{at_drop_more, drop_all}
use Rattle.escpos_picture.specs.Spans.{row_spans, spans_text, passed, white_span, byte_spans_text}
use Rattle.escpos_picture.specs.Steps.{step_text}
use Rattle.escpos_picture.specs.Rasters.{row_end}
use Rattle.escpos_picture.proofs.GivenSteps.{stopped_at, appended_at, given_as}
use Rattle.escpos_picture.proofs.RowSteps.{row_text, black_text, black_passed}
use Rattle.escpos_picture.proofs.raster.put_long_row.Goals as goal

pub returns-in_err-room : goal.returns-in_err-room
returns-in_err-room g c =
    let l = c.loop-byte in
    let far = l.invariant.so_far in
    let row = c.args.row.now in
    let left = spans_text (row_spans l.white (drop l.byte-index row)) in
    let end = step_text (row_end c.args.is_last (passed (row_spans 0 row))) in
    stopped_at c.from_residual.result c.in_err-room.field-0.0 _ _ _ _ _ _ _ _ _ far.done (left ++ end) _ c.from_residual.ensures.1 far.given c.in_err-room.ensures.given
    (row_text c.args.is_last row ∙ ap (λ t. t ++ end) far.whole_is ∙ append_assoc far.done left end)

pub loop-byte-preserved : goal.loop-byte-preserved
loop-byte-preserved g c =
    let l = c.loop-byte in
    let far = l.invariant.so_far in
    let row = c.args.row.now in
    let byte = get_or row l.byte-index 0 in
    let rest = drop (l.byte-index + 1) row in
    let white = spans_text (white_span l.white) in
    let own = white ++ byte_spans_text byte in
    let left = spans_text (row_spans 0 rest) in
    let some = c.if-byte-eq0.false in
    let text = at_drop_more (λ bytes. spans_text (row_spans l.white bytes)) row l.byte-index 0 c.loop-byte-test.true ∙ black_text l.white byte rest some in
    let here = at_drop_more (λ bytes. passed (row_spans l.white bytes)) row l.byte-index 0 c.loop-byte-test.true ∙ black_passed l.white byte rest some in
    let way = l.invariant.way in
    record {
      so_far = record {
        done = far.done ++ own;
        given = appended_at _ _ _ _ _ _ _ _ _ _ far.done own far.given c.in_ok-room.ensures.given
            (c.append_byte.ensures.kept ∙ append_assoc c.room.new.self.kept white (byte_spans_text byte)) c.append_byte.ensures.same_count;
        whole_is = far.whole_is ∙ ap (λ t. far.done ++ t) text ∙ sym (append_assoc far.done own left);
      };
      way = omega (arith, way, here);
      near = omega arith;
    }

pub returns-in_err-room-2 : goal.returns-in_err-room-2
returns-in_err-room-2 g c =
    let l = c.loop-byte in
    let far = l.invariant.so_far in
    let row = c.args.row.now in
    let end = step_text (row_end c.args.is_last (passed (row_spans 0 row))) in
    let none : drop l.byte-index row ≡ [] = drop_all l.byte-index row (omega (arith, c.loop-byte-test.false)) in
    let spans = far.whole_is ∙ ap (λ bytes. far.done ++ spans_text (row_spans l.white bytes)) none ∙ append-nil far.done in
    stopped_at c.from_residual-in_err-room-2.result c.in_err-room-2.field-0.0 _ _ _ _ _ _ _ _ _ far.done end _ c.from_residual-in_err-room-2.ensures.1 far.given
    c.in_err-room-2.ensures.given (row_text c.args.is_last row ∙ ap (λ t. t ++ end) spans)

pub returns : goal.returns
returns g c =
    let l = c.loop-byte in
    let far = l.invariant.so_far in
    let row = c.args.row.now in
    let way = l.invariant.way in
    let near = l.invariant.near in
    let dots = 8 * length row - l.white in
    let end = step_text (row_end c.args.is_last dots) in
    let none : drop l.byte-index row ≡ [] = drop_all l.byte-index row (omega (arith, c.loop-byte-test.false)) in
    let all : passed (row_spans l.white (drop l.byte-index row)) ≡ 0 = ap (λ bytes. passed (row_spans l.white bytes)) none in
    let passes : passed (row_spans 0 row) ≡ dots = omega (arith, way, all, near) in
    let spans = far.whole_is ∙ ap (λ bytes. far.done ++ spans_text (row_spans l.white bytes)) none ∙ append-nil far.done in
    given_as _ _ _ (far.done ++ end) _
    (appended_at _ _ _ _ _ _ _ _ _ _ far.done end far.given c.in_ok-room-2.ensures.given c.append_end.ensures.kept c.append_end.ensures.same_count)
    (row_text c.args.is_last row ∙ ap (λ n. spans_text (row_spans 0 row) ++ step_text (row_end c.args.is_last n)) passes ∙ ap (λ t. t ++ end) spans)
