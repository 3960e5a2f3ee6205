use Rattle.std.proofs.Common.{◌*◌, ◌+◌, get_or, drop, arith}
use Rattle.escpos_barcode.specs.Tables.{row, itf_digits}
use Rattle.escpos_barcode.proofs.Drawing.{draw_part}
use Rattle.escpos_barcode.proofs.Parts.{left_pairs}
use Rattle.escpos_barcode.specs.Elements.{interleaved, pairs}
use Rattle.escpos_barcode.proofs.itf.draw_pairs.Goals as goal

pub loop-pair-preserved : goal.loop-pair-preserved
loop-pair-preserved c =
    draw_part c.args.pen.now c.loop-pair.pen c.draw_pair.new.pen (pairs c.args.digits.now) _
    (interleaved (row itf_digits (get_or c.args.digits.now (2 * c.loop-pair.pair) 0)) (row itf_digits (get_or c.args.digits.now (2 * c.loop-pair.pair + 1) 0)))
    (pairs (drop (2 * (c.loop-pair.pair + 1)) c.args.digits.now))
    c.loop-pair.invariant (left_pairs c.args.digits.now c.loop-pair.pair (omega arith)) c.draw_pair.ensures
