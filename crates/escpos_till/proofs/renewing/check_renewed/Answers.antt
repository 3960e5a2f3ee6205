-- The book that was read of it has these keys.
use Rattle.std.proofs.Common.{refl}
use Rattle.escpos_till.proofs.renewing.check_renewed.Goals as goal

pub returns-in-Ok-clause-agrees : goal.returns-in-Ok-clause-agrees
returns-in-Ok-clause-agrees c =
    let same = c.has_marks_of.ensures.0 c.if-has_marks_of.true in
    (c.in-Ok.found, c.in-Ok.ensures.book, same.0, same.1, c.if-keys_agree.ensures refl)
