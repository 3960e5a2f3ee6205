use Rattle.escpos_paper.proofs.Initialisation.{initialisation}
use Rattle.escpos_paper.proofs.laws.initialisation.Goals as goal

pub returns : goal.returns
returns c = initialisation
