-- The job's text is the paper's text, and the caller is given it.
use Rattle.std.specs.Prelude.{false}
use Rattle.escpos_stream_jobs.specs.Render.{paper_shape}
use Rattle.escpos_stream_jobs.specs.Report.{IsText, IsCutShort}
use Rattle.escpos_c.proofs.Answering.{told_text}
use Rattle.escpos_c.proofs.stateless.paper.Goals as goal

pub returns : goal.returns
returns c =
    told_text (IsText (paper_shape c.args.width) false) (IsCutShort (paper_shape c.args.width) false) c.args.bytes.now _ _ _ _ _ c.answer_within.ensures.within _ _ c.new-input.ensures.to_come c.new-text.ensures.written
    c.render-status.result _ c.answer_within.result c.number.result c.render-status.ensures.renders c.answer_within.ensures.told c.number.ensures
