-- A list that doesn't have two items isn't a pair of values.
use Rattle.std.proofs.Common.{ap, arith, length}
use Rattle.serde_json.specs.View.{view}
use Rattle.escpos_receipt.proofs.ValueViews.{no_two}
use Rattle.escpos_receipt.proofs.layout.two_values.Goals as goal

pub returns-then-values-ne2 : goal.returns-then-values-ne2
returns-then-values-ne2 c =
    let many = ap length c.as_slice-values.ensures.value in
    let other = c.if-values-ne2.true in
    no_two (view c.args.value.now) c.in_ok-as_array.field-0.now.items c.in_ok-as_array.ensures (λ two. absurd (omega (arith, many, two, other)))
