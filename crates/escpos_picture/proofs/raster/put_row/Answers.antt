use Rattle.std.proofs.Common.{[], Ok, Err}
use Rattle.escpos_picture.specs.Steps.{steps_text}
use Rattle.escpos_picture.specs.Rasters.{row_steps}
use Rattle.escpos_picture.proofs.RasterRows.{part_in_turn, part_in_the_front, part_of_given, part_past, part_waits}
use Rattle.escpos_picture.proofs.raster.put_row.Goals as goal

pub returns-in_err-put_spans : goal.returns-in_err-put_spans
returns-in_err-put_spans g c =
    part_in_the_front c.from_residual.result c.in_err-put_spans.field-0.0 _ _ _ _ _ _ [] (steps_text (row_steps c.args.is_last c.args.row.now)) c.from_residual.ensures.1
    (part_of_given (Err c.in_err-put_spans.field-0.0) _ _ _ c.args.spans.now.text c.put_spans.new.spans.text c.in_err-put_spans.ensures.given c.in_err-put_spans.ensures.nothing_waits)

pub returns-then-row-gt-SHORT_ROW_BYTES : goal.returns-then-row-gt-SHORT_ROW_BYTES
returns-then-row-gt-SHORT_ROW_BYTES g c =
    let none = c.in_ok-put_spans.ensures.nothing_waits in
    let row = steps_text (row_steps c.args.is_last c.args.row.now) in
    let waits = part_of_given (Ok tt) _ _ _ c.args.spans.now.text c.put_spans.new.spans.text c.in_ok-put_spans.ensures.given none in
    part_in_turn c.put_long_row.result _ _ _ _ _ _ _ _ _ _ _ _ [] row waits
    (part_past c.put_long_row.result _ _ _ c.put_spans.new.spans.text row none c.put_long_row.ensures)

pub returns-in_err-make_room : goal.returns-in_err-make_room
returns-in_err-make_room g c =
    part_in_the_front c.from_residual-in_err-make_room.result c.in_err-make_room.field-0.0 _ _ _ _ _ _ [] (steps_text (row_steps c.args.is_last c.args.row.now))
    c.from_residual-in_err-make_room.ensures.1 c.in_err-make_room.ensures.given

pub returns : goal.returns
returns g c =
    let row = steps_text (row_steps c.args.is_last c.args.row.now) in
    part_in_turn (Ok tt) _ _ _ _ _ _ _ _ _ _ _ _ [] row c.in_ok-make_room.ensures.given
    (part_waits (g.W.ByteOut.written c.make_room.new.writer) (g.W.ByteOut.failed c.make_room.new.writer) c.make_room.new.gather c.make_room.new.spans.text _ row c.append_row.ensures)
