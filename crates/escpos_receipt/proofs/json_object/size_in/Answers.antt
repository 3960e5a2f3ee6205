-- A list that doesn't have two items isn't a size.
use Rattle.std.proofs.Common.{ap, arith, length}
use Rattle.escpos_receipt.proofs.ValueViews.{no_size}
use Rattle.escpos_receipt.proofs.json_object.size_in.Goals as goal

pub returns-in_default : goal.returns-in_default
returns-in_default c =
    let many = ap length c.as_slice.ensures.value in
    let few = c.in_default.len_below in
    no_size _ c.in_ok-as_array.field-0.now.items c.in_ok-as_array.ensures (λ two. absurd (omega (arith, many, two, few)))

pub returns-in_default-2 : goal.returns-in_default-2
returns-in_default-2 c =
    let many = ap length c.as_slice.ensures.value in
    let few = c.in_default.len_at_least in
    no_size _ c.in_ok-as_array.field-0.now.items c.in_ok-as_array.ensures (λ two. absurd (omega (arith, many, two, few)))
