-- The job's text is the picture, and the caller is given it.
use Rattle.std.specs.Prelude.{false}
use Rattle.escpos_stream_jobs.specs.Draw.{IsPicture, IsShortPicture}
use Rattle.escpos_c.proofs.Answering.{told_text}
use Rattle.escpos_c.proofs.stateless.picture.Goals as goal

pub returns : goal.returns
returns c =
    told_text (IsPicture c.args.width false) (IsShortPicture c.args.width false) c.args.bytes.now _ _ _ _ _ c.answer_within.ensures.within _ _ c.new-input.ensures.to_come c.new-text.ensures.written
    c.draw-status.result _ c.answer_within.result c.number.result c.draw-status.ensures.draws c.answer_within.ensures.told c.number.ensures
