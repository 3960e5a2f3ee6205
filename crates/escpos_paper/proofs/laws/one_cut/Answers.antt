use Rattle.escpos_paper.proofs.OneCut.{one_cut}
use Rattle.escpos_paper.proofs.AllCuts.{rows_cut}
use Rattle.escpos_paper.proofs.laws.one_cut.Goals as goal

pub returns-clause-cut : goal.returns-clause-cut
returns-clause-cut c = rows_cut

pub returns-clause-no_other : goal.returns-clause-no_other
returns-clause-no_other c = one_cut
