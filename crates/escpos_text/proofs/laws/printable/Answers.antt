use Rattle.escpos_text.proofs.Printable.{printable}
use Rattle.escpos_text.proofs.laws.printable.Goals as goal

pub returns : goal.returns
returns c = printable
