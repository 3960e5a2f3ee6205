-- The members are as many as the map has.
use Rattle.std.proofs.Common.{◌∙◌, sym}
use Rattle.escpos_receipt.proofs.ValueViews.{field_of, field_none}
use Rattle.escpos_receipt.proofs.json_value.field.Goals as goal

pub returns-then-len-count : goal.returns-then-len-count
returns-then-len-count c =
    sym (field_none _ c.in_ok-as_object.field-0.now.entries c.args.count c.args.name.now c.in_ok-as_object.ensures
    (λ same. c.if-len-count.true (c.len.ensures.len ∙ same)))

pub returns : goal.returns
returns c =
    c.get.ensures ∙ sym (field_of _ c.in_ok-as_object.field-0.now.entries c.args.count c.args.name.now c.in_ok-as_object.ensures
    (sym c.len.ensures.len ∙ c.if-len-count.false))
