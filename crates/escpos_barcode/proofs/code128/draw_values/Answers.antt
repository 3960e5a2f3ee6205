use Rattle.std.proofs.Common.{ap, ◌∙◌, arith}
use Rattle.escpos_barcode.specs.Tables.{row, code128_table}
use Rattle.escpos_barcode.proofs.Drawing.{draw_next, drawn_all}
use Rattle.escpos_barcode.proofs.Parts.{code128_drawn}
use Rattle.escpos_barcode.specs.Pen.{draw}
use Rattle.escpos_barcode.proofs.code128.draw_values.Goals as goal

pub loop-value-preserved : goal.loop-value-preserved
loop-value-preserved c =
    draw_next (row code128_table) c.args.pen.now c.loop-value.pen c.draw.new.self c.args.values.now c.loop-value.value-index _ (omega arith)
    c.loop-value.invariant c.code128_pattern.ensures.row c.draw.ensures

pub returns : goal.returns
returns c =
    let all = drawn_all (row code128_table) c.args.pen.now c.loop-value.pen c.args.values.now c.loop-value.value-index (omega arith) c.loop-value.invariant in
    let check = c.draw-2.ensures ∙ ap (draw c.loop-value.pen) (c.code128_pattern-2.ensures.row ∙ ap (row code128_table) c.check_value.ensures) in
    let stop = c.draw-3.ensures ∙ ap (draw c.draw-2.new.self) c.code128_pattern-3.ensures.row in
    code128_drawn c.args.pen.now c.loop-value.pen c.draw-2.new.self c.draw-3.new.self c.draw-4.new.self c.args.values.now all check stop c.draw-4.ensures
