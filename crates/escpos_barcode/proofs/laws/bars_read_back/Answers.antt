use Rattle.escpos_barcode.proofs.ReadBack.{read_back}
use Rattle.escpos_barcode.proofs.laws.bars_read_back.Goals as goal

pub returns : goal.returns
returns c = read_back
