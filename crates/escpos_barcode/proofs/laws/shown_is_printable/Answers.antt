use Rattle.escpos_barcode.proofs.Printable.{printable_shown}
use Rattle.escpos_barcode.proofs.laws.shown_is_printable.Goals as goal

pub returns : goal.returns
returns c = printable_shown
