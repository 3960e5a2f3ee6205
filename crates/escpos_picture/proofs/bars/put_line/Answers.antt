use Rattle.std.proofs.Common.{◌≡◌, ℕ, ◌++◌, [], ◌∷◌, Ok, Err, refl, sym, ◌∙◌, List, true, false, length}
use Rattle.std.specs.Prelude.{codes, ◌==◌}
use Rattle.escpos_io.proofs.Giving.{given_in_turn, given_in_the_front}
use Rattle.escpos_picture.specs.Spans.{spans_text, line_start, line_text}
use Rattle.escpos_picture.specs.BarItems.{bar_spans}
use Rattle.escpos_picture.proofs.GivenSteps.{appended_at, nothing_given}
use Rattle.escpos_picture.proofs.bars.put_line.Goals as goal

-- Where there is a bar there is a path.
of_bars : (widths : List ℕ) → (length widths == 0) ≡ false
    → line_text 0 (bar_spans true widths) ≡ line_start 0 ++ spans_text (bar_spans true widths) ++ codes "\"/>\n"
of_bars [] some = absurd (cc)
of_bars (w ∷ ws) some = refl

pub returns-in_err-room : goal.returns-in_err-room
returns-in_err-room g c =
    given_in_the_front c.from_residual.result c.in_err-room.field-0.0 _ _ _ [] _ _ c.from_residual.ensures.1 c.in_err-room.ensures.given refl

pub returns-in_err-put_bar_spans : goal.returns-in_err-put_bar_spans
returns-in_err-put_bar_spans g c =
    let start = line_start 0 in
    let bars = spans_text (bar_spans true c.args.widths.now) in
    let first = appended_at _ _ _ _ _ _ _ _ _ c.append_line_start.new.gather [] start (nothing_given _ _ _) c.in_ok-room.ensures.given c.append_line_start.ensures.kept c.append_line_start.ensures.same_count in
    let stopped = given_in_turn (Err c.in_err-put_bar_spans.field-0.0) _ _ _ _ _ _ _ _ _ start bars (start ++ bars) first c.in_err-put_bar_spans.ensures refl in
    given_in_the_front c.from_residual-in_err-put_bar_spans.result c.in_err-put_bar_spans.field-0.0 _ _ _ (start ++ bars) (codes "\"/>\n") _
    c.from_residual-in_err-put_bar_spans.ensures.1 stopped (of_bars c.args.widths.now (sym c.is_empty.ensures ∙ c.if-is_empty.false))

pub returns : goal.returns
returns g c =
    let start = line_start 0 in
    let bars = spans_text (bar_spans true c.args.widths.now) in
    let first = appended_at _ _ _ _ _ _ _ _ _ c.append_line_start.new.gather [] start (nothing_given _ _ _) c.in_ok-room.ensures.given c.append_line_start.ensures.kept c.append_line_start.ensures.same_count in
    let second = given_in_turn (Ok tt) _ _ _ _ _ _ _ _ _ start bars (start ++ bars) first c.in_ok-put_bar_spans.ensures refl in
    given_in_turn c.put.result _ _ _ _ _ _ _ _ _ (start ++ bars) (codes "\"/>\n") _ second c.put.ensures.given
    (of_bars c.args.widths.now (sym c.is_empty.ensures ∙ c.if-is_empty.false))
