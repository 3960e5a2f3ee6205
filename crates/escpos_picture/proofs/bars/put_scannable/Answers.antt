-- What comes before the bars, the bars and what comes after them are given one after another.
use Rattle.std.proofs.Common.{◌++◌, [], Ok, Err, refl, sym, ap, true}
use Rattle.escpos_io.proofs.Giving.{given_in_turn, given_in_the_front}
use Rattle.escpos_picture.specs.Spans.{line_text}
use Rattle.escpos_picture.specs.BarItems.{bar_spans, bars_start, bars_end}
use Rattle.escpos_picture.proofs.GivenSteps.{stopped_at, appended_at, nothing_given, given_as}
use Rattle.escpos_picture.proofs.bars.put_scannable.Goals as goal

pub returns-in_err-room : goal.returns-in_err-room
returns-in_err-room g c =
    given_in_the_front c.from_residual.result c.in_err-room.field-0.0 _ _ _ [] _ _ c.from_residual.ensures.1 c.in_err-room.ensures.given refl

pub returns-in_err-put_line : goal.returns-in_err-put_line
returns-in_err-put_line g c =
    let symbol = c.args.symbol.now in
    let width = c.width_of-dots.result in
    let start = bars_start c.args.width c.args.down symbol.align symbol.style width c.args.text.now in
    let bars = line_text 0 (bar_spans true c.args.widths.now) in
    let end = bars_end symbol.style width c.args.text.now in
    let first = appended_at _ _ _ _ _ _ _ _ _ c.append_start.new.gather [] start (nothing_given _ _ _) c.in_ok-room.ensures.given c.append_start.ensures.kept c.append_start.ensures.same_count in
    let stopped = given_in_turn (Err c.in_err-put_line.field-0.0) _ _ _ _ _ _ _ _ _ start bars (start ++ bars) first c.in_err-put_line.ensures refl in
    given_in_the_front c.from_residual-in_err-put_line.result c.in_err-put_line.field-0.0 _ _ _ (start ++ bars) end _ c.from_residual-in_err-put_line.ensures.1 stopped
    (ap (λ w. bars_start c.args.width c.args.down symbol.align symbol.style w c.args.text.now ++ bars ++ bars_end symbol.style w c.args.text.now) (sym c.width_of-dots.ensures))

pub returns-in_err-room-2 : goal.returns-in_err-room-2
returns-in_err-room-2 g c =
    let symbol = c.args.symbol.now in
    let width = c.width_of-dots.result in
    let start = bars_start c.args.width c.args.down symbol.align symbol.style width c.args.text.now in
    let bars = line_text 0 (bar_spans true c.args.widths.now) in
    let end = bars_end symbol.style width c.args.text.now in
    let first = appended_at _ _ _ _ _ _ _ _ _ c.append_start.new.gather [] start (nothing_given _ _ _) c.in_ok-room.ensures.given c.append_start.ensures.kept c.append_start.ensures.same_count in
    let second = given_in_turn (Ok tt) _ _ _ _ _ _ _ _ _ start bars (start ++ bars) first c.in_ok-put_line.ensures refl in
    stopped_at c.from_residual-in_err-room-2.result c.in_err-room-2.field-0.0 _ _ _ _ _ _ _ _ _ (start ++ bars) end _ c.from_residual-in_err-room-2.ensures.1 second c.in_err-room-2.ensures.given
    (ap (λ w. bars_start c.args.width c.args.down symbol.align symbol.style w c.args.text.now ++ bars ++ bars_end symbol.style w c.args.text.now) (sym c.width_of-dots.ensures))

pub returns : goal.returns
returns g c =
    let symbol = c.args.symbol.now in
    let width = c.width_of-dots.result in
    let start = bars_start c.args.width c.args.down symbol.align symbol.style width c.args.text.now in
    let bars = line_text 0 (bar_spans true c.args.widths.now) in
    let end = bars_end symbol.style width c.args.text.now in
    let first = appended_at _ _ _ _ _ _ _ _ _ c.append_start.new.gather [] start (nothing_given _ _ _) c.in_ok-room.ensures.given c.append_start.ensures.kept c.append_start.ensures.same_count in
    let second = given_in_turn (Ok tt) _ _ _ _ _ _ _ _ _ start bars (start ++ bars) first c.in_ok-put_line.ensures refl in
    let third = appended_at _ _ _ _ _ _ _ _ _ c.append_end.new.gather (start ++ bars) end second c.in_ok-room-2.ensures.given c.append_end.ensures.kept c.append_end.ensures.same_count in
    given_as _ _ _ _ _ third
    (ap (λ w. bars_start c.args.width c.args.down symbol.align symbol.style w c.args.text.now ++ bars ++ bars_end symbol.style w c.args.text.now) (sym c.width_of-dots.ensures))
