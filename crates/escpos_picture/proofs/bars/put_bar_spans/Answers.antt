use Rattle.std.proofs.Common.{◌≡◌, ◌+◌, ◌++◌, [], refl, sym, ◌∙◌, ap, append-nil, append_assoc, drop, arith, not}
use Rattle.std.proofs.lemmas.List.{at_drop_more, drop_all}
use Rattle.escpos_io.proofs.Giving.{given_appended}
use Rattle.escpos_picture.specs.Spans.{span, span_text, spans_text}
use Rattle.escpos_picture.specs.BarItems.{bar_spans}
use Rattle.escpos_picture.proofs.GivenSteps.{stopped_at, appended_at, given_as}
use Rattle.escpos_picture.proofs.bars.put_bar_spans.Goals as goal

pub loop-width-init : goal.loop-width-init
loop-width-init g c = record {
  so_far = record {
    done = [];
    given = given_appended _ _ _ _ _ (sym (append-nil c.args.gather.now.kept)) refl;
    whole_is = refl;
  };
}

pub returns-in_err-room : goal.returns-in_err-room
returns-in_err-room g c =
    let far = c.loop-width.invariant.so_far in
    stopped_at c.from_residual.result c.in_err-room.field-0.0 _ _ _ _ _ _ _ _ _ far.done _ _ c.from_residual.ensures.1 far.given c.in_err-room.ensures.given far.whole_is

pub loop-width-preserved : goal.loop-width-preserved
loop-width-preserved g c =
    let l = c.loop-width in
    let far = l.invariant.so_far in
    let width = c.from.result in
    let step = span_text (span l.is_bar width) in
    let rest = spans_text (bar_spans (not l.is_bar) (drop (l.width-index + 1) c.args.widths.now)) in
    let next = at_drop_more (λ ws. spans_text (bar_spans l.is_bar ws)) c.args.widths.now l.width-index 0 c.loop-width-test.true in
    record {
      so_far = record {
        done = far.done ++ step;
        given = appended_at _ _ _ _ _ _ _ _ _ _ far.done step far.given c.in_ok-room.ensures.given c.append_span.ensures.kept c.append_span.ensures.same_count;
        whole_is = far.whole_is ∙ ap (λ t. far.done ++ t) next
            ∙ ap (λ n. far.done ++ (span_text (span l.is_bar n) ++ rest)) (sym c.from.ensures)
            ∙ sym (append_assoc far.done step rest);
      };
    }

pub returns : goal.returns
returns g c =
    let l = c.loop-width in
    let far = l.invariant.so_far in
    let none : drop l.width-index c.args.widths.now ≡ [] = drop_all l.width-index c.args.widths.now (omega (arith, c.loop-width-test.false)) in
    given_as _ _ _ _ _ far.given (far.whole_is ∙ ap (λ ws. far.done ++ spans_text (bar_spans l.is_bar ws)) none ∙ append-nil far.done)
