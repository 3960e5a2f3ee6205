use Rattle.escpos_printer.proofs.Fitting.{replies_fit}
use Rattle.escpos_printer.proofs.laws.replies.Goals as goal

pub returns : goal.returns
returns c = replies_fit
