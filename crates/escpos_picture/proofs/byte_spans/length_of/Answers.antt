use Rattle.std.proofs.Common.{arith, ◌∙◌, ap, get_or}
use Rattle.escpos_picture.specs.Spans.{byte_spans_text}
use Rattle.escpos_picture.specs.ByteSpans.{lengths_from}
use Rattle.escpos_picture.proofs.ByteTexts.{text_fits, length_at}
use Rattle.escpos_picture.proofs.byte_spans.length_of.Goals as goal

pub returns-clause-value : goal.returns-clause-value
returns-clause-value c =
    c.from-2.ensures ∙ ap (λ l. get_or l c.from.result 0) c.lengths.ensures.lengths ∙ ap (λ n. get_or (lengths_from byte_spans_text 0 256) n 0) c.from.ensures
    ∙ length_at byte_spans_text 256 c.args.byte c.ranges.byte.fits

pub returns-clause-short : goal.returns-clause-short
returns-clause-short c =
    let value = returns-clause-value c in
    let few = text_fits c.args.byte c.ranges.byte.fits in
    omega (arith, value, few)
