use Rattle.std.proofs.Common.{◌∷◌, map, sym, ap, ◌∙◌, arith, Some, None, Bool}
use Rattle.std.specs.Prelude.{if◌then◌else◌}
use Rattle.escpos_barcode.specs.Tables.{row, codabar_table}
use Rattle.escpos_barcode.proofs.Drawing.{draw_next, drawn_all}
use Rattle.escpos_barcode.proofs.Parts.{codabar_drawn}
use Rattle.escpos_barcode.specs.Elements.{upper, spaced}
use Rattle.escpos_barcode.specs.Pen.{draw, attempt}
use Rattle.escpos_barcode.proofs.spaced.draw_codabar.Goals as goal

pub loop-byte-preserved : goal.loop-byte-preserved
loop-byte-preserved c =
    draw_next (λ t. 1 ∷ row codabar_table (upper t)) c.draw.new.self c.loop-byte.pen c.draw_codabar_next.new.pen c.in-Some.more.now c.loop-byte.byte-index
    (1 ∷ row codabar_table c.upper-in-loop-byte.result) (omega arith)
    c.loop-byte.invariant (ap (λ t. 1 ∷ row codabar_table t) c.upper-in-loop-byte.ensures) c.draw_codabar_next.ensures

pub returns-after-loop-byte-clause-drawn : goal.returns-after-loop-byte-clause-drawn
returns-after-loop-byte-clause-drawn c =
    let all = drawn_all (λ t. 1 ∷ row codabar_table (upper t)) c.draw.new.self c.loop-byte.pen c.in-Some.more.now c.loop-byte.byte-index (omega arith) c.loop-byte.invariant in
    let whole = codabar_drawn c.args.pen.now c.draw.new.self c.loop-byte.pen c.in-Some.first.now c.in-Some.more.now c.args.content.now c.in-Some.ensures.cases.0
    (c.draw.ensures ∙ ap (draw c.args.pen.now) (c.codabar_pattern.ensures.row ∙ ap (row codabar_table) c.upper.ensures)) all in
    whole ∙ ap (λ (b : Bool). attempt c.args.pen.now (if b then Some (spaced codabar_table (map upper c.args.content.now)) else None)) (sym c.if-not-is_codabar_content.false ∙ c.is_codabar_content.ensures)
