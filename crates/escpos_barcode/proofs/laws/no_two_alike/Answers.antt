use Rattle.escpos_barcode.proofs.ReadBack.{not_alike}
use Rattle.escpos_barcode.proofs.laws.no_two_alike.Goals as goal

pub returns : goal.returns
returns c = not_alike
