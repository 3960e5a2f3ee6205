-- The usual width is 512 dots.
use Rattle.std.specs.Prelude.{false}
use Rattle.escpos_command.specs.declared.line_width.TheConstants.{USUAL_LINE_DOTS}
use Rattle.escpos_stream_jobs.specs.Render.{paper_shape}
use Rattle.escpos_stream_jobs.specs.Report.{IsText}
use Rattle.escpos_c.proofs.Answering.{at_width}
use Rattle.escpos_c.proofs.stateless.escpos_paper.Goals as goal

pub returns : goal.returns
returns c = at_width (λ width. IsText (paper_shape width) false) c.usual.result USUAL_LINE_DOTS c.usual.ensures _ c.paper.result _ _ _ (record { sfits = c.paper.type_inv }) c.paper.ensures
