use Rattle.std.proofs.Common.{◌*◌, ◌++◌, take, sym, ◌∙◌, ap, append_assoc}
use Rattle.escpos_picture.specs.Spans.{row_spans, spans_text, passed}
use Rattle.escpos_picture.specs.Steps.{step_text}
use Rattle.escpos_picture.specs.Rasters.{row_end}
use Rattle.escpos_picture.proofs.RowSteps.{row_text}
use Rattle.escpos_picture.proofs.short_row.append_row.Goals as goal

pub returns-clause-text : goal.returns-clause-text
returns-clause-text c =
    let row = c.args.row.now in
    let is_last = c.args.is_last in
    let waiting = take c.args.len c.args.bytes.now in
    let spans = spans_text (row_spans 0 row) in
    c.append_end.ensures.text
    ∙ ap (λ t. t ++ step_text (row_end is_last (8 * c.append_spans-end.result.1))) c.append_spans-end.ensures.text
    ∙ ap (λ n. (waiting ++ spans) ++ step_text (row_end is_last n)) c.append_spans-end.ensures.passed
    ∙ append_assoc waiting spans (step_text (row_end is_last (passed (row_spans 0 row))))
    ∙ ap (λ t. waiting ++ t) (sym (row_text is_last row))
