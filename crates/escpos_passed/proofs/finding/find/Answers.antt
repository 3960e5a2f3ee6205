use Rattle.escpos_passed.specs.Table.{table}
use Rattle.escpos_passed.proofs.finding.find.Goals as goal

pub returns : goal.returns
unfolding table
returns c = c.find_in.ensures
