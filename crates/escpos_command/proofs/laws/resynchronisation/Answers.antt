use Rattle.escpos_command.proofs.Resynchronisation.{resynchronisation}
use Rattle.escpos_command.proofs.laws.resynchronisation.Goals as goal

pub returns : goal.returns
returns c = resynchronisation
