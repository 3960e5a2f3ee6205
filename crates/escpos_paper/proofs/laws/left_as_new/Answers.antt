use Rattle.escpos_paper.specs.Rows.{placed}
use Rattle.escpos_paper.proofs.PowerOn.{line_test, prints_as_new, set_test}
use Rattle.escpos_paper.proofs.laws.left_as_new.Goals as goal

pub returns-clause-prints : goal.returns-clause-prints
returns-clause-prints c = prints_as_new

pub returns-clause-set : goal.returns-clause-set
returns-clause-set c = set_test

pub returns-clause-line : goal.returns-clause-line
returns-clause-line c = λ width cs. line_test (placed width cs)
