-- The job's text is the paper's plain text, and the caller is given it.
use Rattle.std.specs.Prelude.{false}
use Rattle.escpos_stream_jobs.specs.Render.{plain_shape}
use Rattle.escpos_stream_jobs.specs.Report.{IsText, IsCutShort}
use Rattle.escpos_c.proofs.Answering.{told_text}
use Rattle.escpos_c.proofs.stateless.paper_text.Goals as goal

pub returns : goal.returns
returns c =
    told_text (IsText (plain_shape c.args.width) false) (IsCutShort (plain_shape c.args.width) false) c.args.bytes.now _ _ _ _ _ c.answer_within.ensures.within _ _ c.new-input.ensures.to_come c.new-text.ensures.written
    c.render_text-status.result _ c.answer_within.result c.number.result c.render_text-status.ensures.renders c.answer_within.ensures.told c.number.ensures
