-- Bars where there are runs, and otherwise a box.
use Rattle.std.proofs.Common.{◌≤◌, arith, [], refl, sym, ◌∙◌, ap, subst}
use Rattle.std.specs.Prelude.{sum}
use Rattle.escpos_command.specs.declared.line_width.TheConstants.{MOST_LINE_DOTS}
use Rattle.escpos_io.specs.Giving.{IsGiven}
use Rattle.escpos_io.specs.Putting.{passage}
use Rattle.escpos_io.proofs.Giving.{given_in_the_front}
use Rattle.escpos_barcode.specs.Drawn.{with_added}
use Rattle.escpos_barcode.specs.Shown.{shown}
use Rattle.escpos_picture.specs.BarItems.{scannable, bars_or_box}
use Rattle.escpos_picture.proofs.bars.put_bars.Goals as goal

pub put_scannable-requires : goal.put_scannable-requires
put_scannable-requires g c =
    let symbol = c.args.symbol.now in
    let fit = c.bars_fit.ensures.dots c.args.width symbol.symbology symbol.style.module_width (with_added c.args.content.now symbol.added) c.in-Some.runs (sym c.runs.ensures ∙ c.in-Some.is) in
    record {
      narrow = subst (λ ws. sum ws ≤ MOST_LINE_DOTS) (sym c.as_slice.ensures.widths) (omega (arith, fit, c.dots.ensures.most, c.dots.ensures.kept));
      few = c.as_slice-in-Some.ensures.few;
      small = c.requires.small;
    }

pub returns-in-Some : goal.returns-in-Some
returns-in-Some g c =
    let symbol = c.args.symbol.now in
    let content = with_added c.args.content.now symbol.added in
    let text = c.as_slice-in-Some.ensures.text ∙ c.interpretation-text.ensures in
    let bars = ap (λ t. scannable c.args.width c.args.down symbol.align symbol.style t c.as_slice.result.now) text
    ∙ ap (λ w. scannable c.args.width c.args.down symbol.align symbol.style (shown symbol.symbology content) w) c.as_slice.ensures.widths
    ∙ ap (bars_or_box c.args.width c.args.down symbol.align symbol.style (shown symbol.symbology content) content) (sym c.in-Some.is ∙ c.runs.ensures) in
    subst (λ t. IsGiven c.put_scannable.result (passage (g.W.ByteOut.written c.args.writer.now) (g.W.ByteOut.written c.put_scannable.new.writer) (g.W.ByteOut.failed c.args.writer.now) (g.W.ByteOut.failed c.put_scannable.new.writer))
    c.args.gather.now c.put_scannable.new.gather t) bars c.put_scannable.ensures

pub returns-in_err-room-in-None : goal.returns-in_err-room-in-None
returns-in_err-room-in-None g c =
    given_in_the_front c.from_residual.result c.in_err-room-in-None.field-0.0 _ _ _ [] _ _ c.from_residual.ensures.1 c.in_err-room-in-None.ensures.given refl
