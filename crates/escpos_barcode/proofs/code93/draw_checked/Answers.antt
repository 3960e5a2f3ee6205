use Rattle.std.proofs.Common.{ap, ◌∙◌, arith}
use Rattle.escpos_barcode.specs.Tables.{row, code93_table}
use Rattle.escpos_barcode.proofs.Drawing.{draw_next, drawn_all}
use Rattle.escpos_barcode.proofs.Parts.{code93_drawn}
use Rattle.escpos_barcode.specs.Pen.{draw}
use Rattle.escpos_barcode.proofs.code93.draw_checked.Goals as goal

pub loop-value-preserved : goal.loop-value-preserved
loop-value-preserved c =
    draw_next (row code93_table) c.draw.new.self c.loop-value.pen c.draw-in-loop-value.new.self c.args.values.now c.loop-value.value-index _ (omega arith)
    c.loop-value.invariant c.code93_pattern-in-loop-value.ensures.row c.draw-in-loop-value.ensures

pub returns : goal.returns
returns c =
    let start = c.draw.ensures ∙ ap (draw c.args.pen.now) c.code93_pattern.ensures.row in
    let all = drawn_all (row code93_table) c.draw.new.self c.loop-value.pen c.args.values.now c.loop-value.value-index (omega arith) c.loop-value.invariant in
    let stop = c.draw-2.ensures ∙ ap (draw c.loop-value.pen) c.code93_pattern-2.ensures.row in
    code93_drawn c.args.pen.now c.draw.new.self c.loop-value.pen c.draw-2.new.self c.draw-3.new.self c.args.values.now start all stop c.draw-3.ensures
