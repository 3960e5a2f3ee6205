use Rattle.std.proofs.Common.{◌++◌, ◌∙◌, ap}
use Rattle.escpos_picture.specs.Steps.{steps_text}
use Rattle.escpos_picture.specs.Rasters.{row_steps}
use Rattle.escpos_picture.proofs.span_buffer.SpanBuffer.append_row.Goals as goal

pub returns : goal.returns
returns c =
    c.append_row-self-inside.ensures.text ∙ ap (λ v. v.text ++ steps_text (row_steps c.args.is_last c.args.row.now)) c.self.view_is
