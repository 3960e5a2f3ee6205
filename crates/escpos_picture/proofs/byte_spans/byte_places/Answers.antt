use Rattle.std.proofs.Common.{◌≡◌, ◌+◌, ◌-◌, ◌*◌, take, drop, length, arith, ◌∙◌, ap}
use Rattle.std.proofs.lemmas.List.{take-take}
use Rattle.escpos_picture.specs.Spans.{byte_spans_text}
use Rattle.escpos_picture.specs.ByteSpans.{texts_from}
use Rattle.escpos_picture.proofs.ByteTexts.{text_at, text_fits}
use Rattle.escpos_picture.proofs.byte_spans.byte_places.Goals as goal

pub returns-clause-text : goal.returns-clause-text
returns-clause-text c =
    let start = 24 * c.from-start.result in
    let len = length (byte_spans_text c.args.byte) in
    let count : start + 24 - start ≡ 24 = omega arith in
    let few = text_fits c.args.byte c.ranges.byte.fits in
    ap (λ n. take len (take n (drop start c.texts.result.now))) count
    ∙ take-take len 24 (drop start c.texts.result.now) (omega (arith, few))
    ∙ ap (λ t. take len (drop start t)) c.texts.ensures.text
    ∙ ap (λ n. take len (drop (24 * n) (texts_from 24 byte_spans_text 0 256))) c.from-start.ensures
    ∙ text_at 24 byte_spans_text 256 c.args.byte c.ranges.byte.fits few
