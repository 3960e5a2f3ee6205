use Rattle.std.proofs.Common.{◌-◌, ◌*◌, ◌+◌, get_or, drop, ap, ◌∙◌, arith}
use Rattle.std.specs.Prelude.{flat_map}
use Rattle.escpos_barcode.specs.Tables.{row, left_digits}
use Rattle.escpos_barcode.proofs.Drawing.{draw_part}
use Rattle.escpos_barcode.proofs.Parts.{left_sets}
use Rattle.escpos_barcode.specs.Elements.{in_sets}
use Rattle.escpos_barcode.specs.Pen.{draw}
use Rattle.escpos_barcode.proofs.upc.draw_left.Goals as goal

pub loop-place-preserved : goal.loop-place-preserved
loop-place-preserved c =
    draw_part c.args.pen.now c.loop-place.pen c.draw.new.self (flat_map (row left_digits) (in_sets c.args.sets.now c.args.digits.now)) _
    (row left_digits (10 * get_or c.args.sets.now c.loop-place.place 0 + (get_or c.args.digits.now c.loop-place.place 0 - 0x30)))
    (flat_map (row left_digits) (in_sets (drop (c.loop-place.place + 1) c.args.sets.now) (drop (c.loop-place.place + 1) c.args.digits.now)))
    c.loop-place.invariant (left_sets c.args.sets.now c.args.digits.now c.loop-place.place (omega arith) (omega arith))
    (c.draw.ensures ∙ ap (draw c.loop-place.pen) c.left_digit.ensures.row)
