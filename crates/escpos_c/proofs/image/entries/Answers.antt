-- The job's text is the picture's entries, or why there are none, and the caller is given it.
use Rattle.std.proofs.Common.{◌∙◌, ap, Some}
use Rattle.escpos_c.proofs.ImageAnswering.{told_image}
use Rattle.escpos_c.proofs.image.entries.Goals as goal

pub returns : goal.returns
returns c =
    told_image c.args.width c.args.threshold c.args.bytes.now _ _ _ _ _ _ _ _ c.new-input.ensures.to_come (c.new-text.ensures.written ∙ ap Some c.new.ensures.items)
    (c.deref.ensures.value ∙ ap (λ v. v.items) c.into_inner.ensures) c.image-status.result c.answer.result
    c.number.result c.image-status.ensures.makes c.answer.ensures c.number.ensures
