-- What followed the call is what came of it.
use Rattle.escpos_till_jobs.proofs.Outcomes.{became}
use Rattle.escpos_till_jobs.proofs.cancel.cancelled.Goals as goal

pub returns-in-Ok : goal.returns-in-Ok
returns-in-Ok g c = became _ _ c.args.machine.now _ c.args.around.now _ c.follow.result c.follow.new.machine c.follow.new.around (c.in-Ok.ensures.cancels) c.follow.ensures
