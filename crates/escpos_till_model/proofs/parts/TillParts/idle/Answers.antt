use Rattle.std.proofs.Common.{refl}
use Rattle.escpos_till_model.proofs.TillHappens.{is_up}
use Rattle.escpos_till_model.proofs.parts.TillParts.idle.Goals as goal

pub returns-then-has_link-clause-refused : goal.returns-then-has_link-clause-refused
returns-then-has_link-clause-refused c =
    let (m, was, linked) = c.if-has_link.ensures.linked refl in
    (tt, (m, was, is_up c.args.self.now m c.requires was linked), refl)
