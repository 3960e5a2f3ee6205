use Rattle.std.proofs.Common.{◌++◌, sym, ap, ◌∙◌, Some, None, Bool}
use Rattle.std.specs.Prelude.{if◌then◌else◌}
use Rattle.escpos_barcode.proofs.Drawing.{draw_then}
use Rattle.escpos_barcode.specs.Elements.{pairs, itf_start, itf_stop}
use Rattle.escpos_barcode.specs.Pen.{attempt}
use Rattle.escpos_barcode.proofs.itf.draw_itf.Goals as goal

pub returns-clause-drawn : goal.returns-clause-drawn
returns-clause-drawn c =
    let whole = draw_then c.args.pen.now c.draw.new.self c.draw-2.new.self itf_start (pairs c.args.content.now ++ itf_stop) c.draw.ensures
    (draw_then c.draw.new.self c.draw_pairs.new.pen c.draw-2.new.self (pairs c.args.content.now) itf_stop c.draw_pairs.ensures c.draw-2.ensures) in
    whole ∙ ap (λ (b : Bool). attempt c.args.pen.now (if b then Some (itf_start ++ (pairs c.args.content.now ++ itf_stop)) else None)) (sym c.if-not-is_itf_content.false ∙ c.is_itf_content.ensures)
