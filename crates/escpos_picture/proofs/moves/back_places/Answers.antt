use Rattle.std.proofs.Common.{◌≡◌, ◌+◌, ◌-◌, ◌*◌, ◌<◌, take, drop, length, arith, ◌∙◌, ap}
use Rattle.std.proofs.lemmas.List.{take-take}
use Rattle.escpos_picture.specs.ByteSpans.{back_text}
use Rattle.escpos_picture.proofs.ByteTexts.{text_at, back_fits}
use Rattle.escpos_picture.proofs.moves.back_places.Goals as goal

pub returns-clause-text : goal.returns-clause-text
returns-clause-text c =
    let start = 8 * c.args.count in
    let len = length (back_text c.args.count) in
    let count : start + 8 - start ≡ 8 = omega arith in
    let below : c.args.count < 129 = omega (arith, c.requires) in
    let few = back_fits c.args.count below in
    ap (λ n. take len (take n (drop start c.back_texts.result.now))) count
    ∙ take-take len 8 (drop start c.back_texts.result.now) (omega (arith, few))
    ∙ ap (λ t. take len (drop start t)) c.back_texts.ensures.text
    ∙ text_at 8 back_text 129 c.args.count below few
