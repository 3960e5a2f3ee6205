use Rattle.escpos_printer.proofs.OneBlock.{parts_others, parts_known}
use Rattle.escpos_printer.proofs.laws.answers_in_parts.Goals as goal

pub returns-clause-others : goal.returns-clause-others
returns-clause-others c = parts_others

pub returns-clause-known : goal.returns-clause-known
returns-clause-known c = parts_known
