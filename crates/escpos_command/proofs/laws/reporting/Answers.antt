use Rattle.escpos_command.proofs.Resynchronisation.{reporting}
use Rattle.escpos_command.proofs.laws.reporting.Goals as goal

pub returns : goal.returns
returns c = reporting
