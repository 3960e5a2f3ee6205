use Rattle.escpos_printer.proofs.Changes.{change_others, change_known}
use Rattle.escpos_printer.proofs.laws.change.Goals as goal

pub returns-clause-others : goal.returns-clause-others
returns-clause-others c = change_others

pub returns-clause-known : goal.returns-clause-known
returns-clause-known c = change_known
