-- The job's text is the listing, and the caller is given it.
use Rattle.std.specs.Prelude.{false}
use Rattle.escpos_stream_jobs.specs.Check.{listing_shape}
use Rattle.escpos_stream_jobs.specs.Report.{IsText, IsCutShort}
use Rattle.escpos_c.proofs.Answering.{told_text}
use Rattle.escpos_c.proofs.stateless.escpos_listing.Goals as goal

pub returns : goal.returns
returns c =
    told_text (IsText listing_shape false) (IsCutShort listing_shape false) c.args.bytes.now _ _ _ _ _ c.answer_within.ensures.within _ _ c.new-input.ensures.to_come c.new-text.ensures.written
    c.check-status.result _ c.answer_within.result c.number.result c.check-status.ensures.checks c.answer_within.ensures.told c.number.ensures
