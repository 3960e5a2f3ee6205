use Rattle.std.proofs.Common.{arith}
use Rattle.escpos_barcode.specs.Tables.{row, right_digits}
use Rattle.escpos_barcode.proofs.Drawing.{draw_next}
use Rattle.escpos_barcode.proofs.upc.draw_right.Goals as goal

pub loop-digit-preserved : goal.loop-digit-preserved
loop-digit-preserved c =
    draw_next (row right_digits) c.args.pen.now c.loop-digit.pen c.draw.new.self c.args.digits.now c.loop-digit.digit-index _ (omega arith)
    c.loop-digit.invariant c.right_digit.ensures.row c.draw.ensures
