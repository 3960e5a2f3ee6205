use Rattle.escpos_link.proofs.AtTheEnd.{idle_kept, idle_trusted}
use Rattle.escpos_link.proofs.laws.idle_link.Goals as goal

pub returns-clause-line : goal.returns-clause-line
returns-clause-line c = idle_kept

pub returns-clause-trusted : goal.returns-clause-trusted
returns-clause-trusted c = idle_trusted
