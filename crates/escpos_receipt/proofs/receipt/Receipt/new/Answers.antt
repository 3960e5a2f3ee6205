-- What is refused is no receipt.
use Rattle.std.proofs.Common.{sym, subst}
use Rattle.escpos_receipt.specs.Whole.{Whole}
use Rattle.escpos_receipt.proofs.Refused.{not_whole}
use Rattle.escpos_receipt.proofs.receipt.Receipt.new.Goals as goal

pub returns-in-Some-clause-exact : goal.returns-in-Some-clause-exact
returns-in-Some-clause-exact c = λ whole. absurd (not_whole c.in-Some.fault c.deref.result.now c.in-Some.ensures (subst Whole (sym c.deref.ensures.value) whole))
