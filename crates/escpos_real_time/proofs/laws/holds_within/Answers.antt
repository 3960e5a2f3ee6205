use Rattle.escpos_real_time.proofs.Holding.{within}
use Rattle.escpos_real_time.proofs.laws.holds_within.Goals as goal

pub returns : goal.returns
returns c = within
