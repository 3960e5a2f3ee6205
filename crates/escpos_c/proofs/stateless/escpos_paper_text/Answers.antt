-- The usual width is 512 dots.
use Rattle.std.specs.Prelude.{false}
use Rattle.escpos_command.specs.declared.line_width.TheConstants.{USUAL_LINE_DOTS}
use Rattle.escpos_stream_jobs.specs.Render.{plain_shape}
use Rattle.escpos_stream_jobs.specs.Report.{IsText}
use Rattle.escpos_c.proofs.Answering.{at_width}
use Rattle.escpos_c.proofs.stateless.escpos_paper_text.Goals as goal

pub returns : goal.returns
returns c = at_width (λ width. IsText (plain_shape width) false) c.usual.result USUAL_LINE_DOTS c.usual.ensures _ c.paper_text.result _ _ _ (record { sfits = c.paper_text.type_inv }) c.paper_text.ensures
