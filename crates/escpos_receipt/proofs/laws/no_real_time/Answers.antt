use Rattle.escpos_receipt.proofs.RealTimes.{none_in}
use Rattle.escpos_receipt.proofs.laws.no_real_time.Goals as goal

pub returns : goal.returns
returns c = λ cs whole. none_in cs whole.no_real_time
