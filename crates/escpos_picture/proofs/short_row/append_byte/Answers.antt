use Rattle.std.proofs.Common.{◌*◌, ◌++◌, take, ◌∙◌, ap}
use Rattle.escpos_picture.proofs.RowSteps.{counted_text}
use Rattle.escpos_picture.proofs.short_row.append_byte.Goals as goal

pub returns-clause-text : goal.returns-clause-text
returns-clause-text c =
    let black = c.count_of_black-black.result in
    let places = c.byte_places.result.now in
    let white_places = c.white_places.result.now in
    c.append_front-end.ensures.text
    ∙ ap (λ t. t ++ take (black * c.length_of.result) places) c.append_front-start.ensures.text
    ∙ counted_text (take c.args.len c.args.bytes.now) black c.args.white c.args.byte c.white_length.result c.length_of.result white_places places
    c.count_of_black-black.ensures.none c.count_of_black-black.ensures.some
    (ap (λ n. take n white_places) c.white_length.ensures.value ∙ c.white_places.ensures.text)
    (ap (λ n. take n places) c.length_of.ensures.value ∙ c.byte_places.ensures.text)
