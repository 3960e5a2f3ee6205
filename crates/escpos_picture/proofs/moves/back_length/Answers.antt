use Rattle.std.proofs.Common.{◌<◌, arith, ◌∙◌, ap, get_or}
use Rattle.escpos_picture.specs.ByteSpans.{back_text}
use Rattle.escpos_picture.proofs.ByteTexts.{back_fits, length_at}
use Rattle.escpos_picture.proofs.moves.back_length.Goals as goal

pub returns-clause-value : goal.returns-clause-value
returns-clause-value c =
    let below : c.args.count < 129 = omega (arith, c.requires) in
    c.from.ensures ∙ ap (λ l. get_or l c.args.count 0) c.back_lengths.ensures.lengths ∙ length_at back_text 129 c.args.count below

pub returns-clause-short : goal.returns-clause-short
returns-clause-short c =
    let below : c.args.count < 129 = omega (arith, c.requires) in
    let value = returns-clause-value c in
    let few = back_fits c.args.count below in
    omega (arith, value, few)
