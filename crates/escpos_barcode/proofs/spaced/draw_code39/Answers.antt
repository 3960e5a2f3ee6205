use Rattle.std.proofs.Common.{◌∷◌, refl, sym, ap, ◌∙◌, arith, Some, None, Bool}
use Rattle.std.specs.Prelude.{if◌then◌else◌}
use Rattle.escpos_barcode.specs.Tables.{row, code39_table}
use Rattle.escpos_barcode.proofs.Drawing.{draw_next, drawn_all}
use Rattle.escpos_barcode.proofs.Parts.{code39_drawn}
use Rattle.escpos_barcode.specs.Elements.{code39_elements}
use Rattle.escpos_barcode.specs.Pen.{draw, attempt}
use Rattle.escpos_barcode.proofs.spaced.draw_code39.Goals as goal

pub loop-byte-preserved : goal.loop-byte-preserved
loop-byte-preserved c =
    draw_next (λ t. 1 ∷ row code39_table t) c.draw.new.self c.loop-byte.pen c.draw_code39_next.new.pen c.args.content.now c.loop-byte.byte-index _ (omega arith)
    c.loop-byte.invariant refl c.draw_code39_next.ensures

pub returns-clause-drawn : goal.returns-clause-drawn
returns-clause-drawn c =
    let all = drawn_all (λ t. 1 ∷ row code39_table t) c.draw.new.self c.loop-byte.pen c.args.content.now c.loop-byte.byte-index (omega arith) c.loop-byte.invariant in
    let whole = code39_drawn c.args.pen.now c.draw.new.self c.loop-byte.pen c.draw_code39_next-2.new.pen c.args.content.now
    (c.draw.ensures ∙ ap (draw c.args.pen.now) c.code39_pattern.ensures.row) all c.draw_code39_next-2.ensures in
    whole ∙ ap (λ (b : Bool). attempt c.args.pen.now (if b then Some (code39_elements c.args.content.now) else None)) (sym c.if-not-is_code39_content.false ∙ c.is_code39_content.ensures)
