use Rattle.std.proofs.Common.{sym, ap, ◌∙◌}
use Rattle.escpos_barcode.proofs.Drawing.{runs_drawn, not_drawn}
use Rattle.escpos_barcode.specs.Elements.{elements}
use Rattle.escpos_barcode.specs.Pen.{attempt}
use Rattle.escpos_barcode.specs.Drawn.{drawn}
use Rattle.escpos_barcode.proofs.barcode.runs.Goals as goal

pub returns-then-draw : goal.returns-then-draw
returns-then-draw c =
    let whole = c.as_slice.ensures.value ∙ c.with_added-whole.ensures in
    let range = sym c.is_module.ensures ∙ c.if-not-is_module.false in
    let found = runs_drawn c.args.width c.args.symbology c.args.module_width (elements c.args.symbology c.as_slice.result.now) c.draw.new.pen range
    (sym c.if-draw.true ∙ c.draw.ensures.answer) (c.draw.ensures.drawn ∙ ap (λ d. attempt d (elements c.args.symbology c.as_slice.result.now)) c.new-pen.ensures) in
    c.finish.ensures ∙ found ∙ ap (drawn c.args.width c.args.symbology c.args.module_width) whole

pub returns-else-draw : goal.returns-else-draw
returns-else-draw c =
    let whole = c.as_slice.ensures.value ∙ c.with_added-whole.ensures in
    sym (not_drawn c.args.width c.args.symbology c.args.module_width (elements c.args.symbology c.as_slice.result.now) (sym c.if-draw.false ∙ c.draw.ensures.answer))
    ∙ ap (drawn c.args.width c.args.symbology c.args.module_width) whole
