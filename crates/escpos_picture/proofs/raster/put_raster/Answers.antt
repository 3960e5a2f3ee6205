-- What comes before the rows, the rows and the end of the group are given one after another.
use Rattle.std.proofs.Common.{◌≡◌, ◌++◌, [], Ok, Err, refl, sym, ap}
use Rattle.std.specs.Prelude.{codes}
use Rattle.escpos_io.proofs.Giving.{given_appended, given_in_turn, given_in_the_front}
use Rattle.escpos_picture.specs.Rasters.{rows_of, rows_text}
use Rattle.escpos_picture.specs.Groups.{raster_start}
use Rattle.escpos_picture.proofs.raster.put_raster.Goals as goal

pub returns-in_err-room : goal.returns-in_err-room
returns-in_err-room g c =
    given_in_the_front c.from_residual.result c.in_err-room.field-0.0 _ _ _ [] _ _ c.from_residual.ensures.1 c.in_err-room.ensures.given refl

pub returns-in_err-put_rows : goal.returns-in_err-put_rows
returns-in_err-put_rows g c =
    let frame = c.args.frame.now in
    let start = raster_start c.args.width c.args.down frame.align frame.scale frame.x in
    let placed = given_appended (g.W.ByteOut.written c.room.new.writer) (g.W.ByteOut.failed c.room.new.writer) _ _ start c.append_start.ensures.kept c.append_start.ensures.same_count in
    let first = given_in_turn (Ok tt) _ _ _ _ _ _ _ _ _ [] start start c.in_ok-room.ensures.given placed refl in
    let rows = rows_text 0 (rows_of c.from.result c.from-2.result c.as_slice.result.now) in
    let is : rows ≡ rows_text 0 (rows_of frame.x frame.y c.args.dots.now) = rw (c.from.ensures, c.from-2.ensures, c.as_slice.ensures.dots) refl in
    let stopped = given_in_turn (Err c.in_err-put_rows.field-0.0) _ _ _ _ _ _ _ _ _ start rows (start ++ rows) first c.in_err-put_rows.ensures refl in
    given_in_the_front c.from_residual-in_err-put_rows.result c.in_err-put_rows.field-0.0 _ _ _ (start ++ rows) (codes "</g></g>\n") _ c.from_residual-in_err-put_rows.ensures.1 stopped
    (ap (λ t. start ++ t ++ codes "</g></g>\n") (sym is))

pub returns : goal.returns
returns g c =
    let frame = c.args.frame.now in
    let start = raster_start c.args.width c.args.down frame.align frame.scale frame.x in
    let placed = given_appended (g.W.ByteOut.written c.room.new.writer) (g.W.ByteOut.failed c.room.new.writer) _ _ start c.append_start.ensures.kept c.append_start.ensures.same_count in
    let first = given_in_turn (Ok tt) _ _ _ _ _ _ _ _ _ [] start start c.in_ok-room.ensures.given placed refl in
    let rows = rows_text 0 (rows_of c.from.result c.from-2.result c.as_slice.result.now) in
    let is : rows ≡ rows_text 0 (rows_of frame.x frame.y c.args.dots.now) = rw (c.from.ensures, c.from-2.ensures, c.as_slice.ensures.dots) refl in
    let second = given_in_turn (Ok tt) _ _ _ _ _ _ _ _ _ start rows (start ++ rows) first c.in_ok-put_rows.ensures refl in
    given_in_turn c.put.result _ _ _ _ _ _ _ _ _ (start ++ rows) (codes "</g></g>\n") _ second c.put.ensures.given (ap (λ t. start ++ t ++ codes "</g></g>\n") (sym is))
