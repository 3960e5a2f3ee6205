use Rattle.std.proofs.Common.{[], Ok, Err}
use Rattle.escpos_io.proofs.Giving.{given_appended}
use Rattle.escpos_picture.specs.Spans.{line_start}
use Rattle.escpos_picture.specs.Steps.{steps_text}
use Rattle.escpos_picture.specs.Rasters.{band_start}
use Rattle.escpos_picture.proofs.RasterRows.{part_in_turn, part_in_the_front, part_of_given, part_past, part_as, start_text}
use Rattle.escpos_picture.proofs.raster.put_start.Goals as goal

pub returns-in_err-put_spans : goal.returns-in_err-put_spans
returns-in_err-put_spans g c =
    part_in_the_front c.from_residual.result c.in_err-put_spans.field-0.0 _ _ _ _ _ _ [] (steps_text (band_start c.args.line)) c.from_residual.ensures.1
    (part_of_given (Err c.in_err-put_spans.field-0.0) _ _ _ c.args.spans.now.text c.put_spans.new.spans.text c.in_err-put_spans.ensures.given c.in_err-put_spans.ensures.nothing_waits)

pub returns-in_err-room : goal.returns-in_err-room
returns-in_err-room g c =
    let waits = part_of_given (Ok tt) _ _ _ c.args.spans.now.text c.put_spans.new.spans.text c.in_ok-put_spans.ensures.given c.in_ok-put_spans.ensures.nothing_waits in
    let stopped = part_past (Err c.in_err-room.field-0.0) _ _ _ c.put_spans.new.spans.text [] c.in_ok-put_spans.ensures.nothing_waits c.in_err-room.ensures.given in
    part_in_the_front c.from_residual-in_err-room.result c.in_err-room.field-0.0 _ _ _ _ _ _ [] (steps_text (band_start c.args.line)) c.from_residual-in_err-room.ensures.1
    (part_in_turn (Err c.in_err-room.field-0.0) _ _ _ _ _ _ _ _ _ _ _ _ [] [] waits stopped)

pub returns : goal.returns
returns g c =
    let none = c.in_ok-put_spans.ensures.nothing_waits in
    let start = line_start c.args.line in
    let waits = part_of_given (Ok tt) _ _ _ c.args.spans.now.text c.put_spans.new.spans.text c.in_ok-put_spans.ensures.given none in
    let room = part_past (Ok tt) _ _ _ c.put_spans.new.spans.text [] none c.in_ok-room.ensures.given in
    let placed = given_appended (g.W.ByteOut.written c.room.new.writer) (g.W.ByteOut.failed c.room.new.writer) _ _ start c.append_line_start.ensures.kept c.append_line_start.ensures.same_count in
    let last = part_past (Ok tt) _ _ _ c.put_spans.new.spans.text start none placed in
    let all = part_in_turn (Ok tt) _ _ _ _ _ _ _ _ _ _ _ _ [] start (part_in_turn (Ok tt) _ _ _ _ _ _ _ _ _ _ _ _ [] [] waits room) last in
    part_as (Ok tt) _ _ _ _ _ start _ all (start_text c.args.line c.if-line-ne0.false)
