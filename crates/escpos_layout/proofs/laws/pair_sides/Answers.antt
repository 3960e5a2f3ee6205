use Rattle.escpos_layout.proofs.SidesOfLines.{pair_sides}
use Rattle.escpos_layout.proofs.laws.pair_sides.Goals as goal

pub returns : goal.returns
returns c = pair_sides
