use Rattle.std.proofs.Common.{◌++◌, sym, ◌∙◌, ap, drop}
use Rattle.escpos_picture.specs.Rows.{characters_text}
use Rattle.escpos_picture.proofs.PlainTexts.{in_two}
use Rattle.escpos_picture.proofs.qr.split_plain.Goals as goal

pub returns-clause-text : goal.returns-clause-text
returns-clause-text c =
    in_two c.plain_len.result c.args.content.now c.plain_len.ensures.plain
    ∙ ap (λ t. t ++ characters_text 0 0 (drop c.plain_len.result c.args.content.now)) (sym c.split_at.ensures.front)
    ∙ ap (λ t. c.split_at.result.0.now ++ characters_text 0 0 t) (sym c.split_at.ensures.back)
