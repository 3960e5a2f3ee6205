use Rattle.escpos_host.proofs.EventsInTurn.{one_step}
use Rattle.escpos_host.proofs.laws.one_event.Goals as goal

pub returns : goal.returns
returns c = one_step
