use Rattle.std.proofs.Common.{inl, inr}
use Rattle.escpos_host.proofs.Ahead.{found}
use Rattle.escpos_host.proofs.counted.number_from.Goals as goal
use Rattle.escpos_host.proofs.counted.number_from.Goals.{then-start-number, else-start-number}

pub returns : goal.returns
returns c = found c.args.from c.in_ok-number.number c.if-start-number.ahead c.args.id c.checked_add.result c.mark_numbers.ensures.one_number c.in_ok-number.ensures.0 c.in_ok-number.ensures.1
    (elim c.if-start-number.branch [ then-start-number w ↦ inl (w.if-start-number.true, w.ahead-is) | else-start-number w ↦ inr (w.if-start-number.false, w.ahead-is) ])
    c.checked_add.ensures
