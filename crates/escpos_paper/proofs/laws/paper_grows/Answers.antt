use Rattle.escpos_paper.proofs.Initialisation.{paper_grows}
use Rattle.escpos_paper.proofs.laws.paper_grows.Goals as goal

pub returns : goal.returns
returns c = paper_grows
