use Rattle.escpos_paper.proofs.Above.{paper_above}
use Rattle.escpos_paper.proofs.laws.paper_above.Goals as goal

pub returns : goal.returns
returns c = paper_above
