use Rattle.escpos_barcode.proofs.Unrefused.{fits_drawn}
use Rattle.escpos_barcode.proofs.laws.all_that_fits_is_drawn.Goals as goal

pub returns : goal.returns
returns c = fits_drawn
