-- The store that was opened is the one that is closed.
use Rattle.std.proofs.Common.{inr}
use Rattle.escpos_till_jobs.proofs.perform.do_at.Goals as goal

pub returns-in-Ok-clause-does : goal.returns-in-Ok-clause-does
returns-in-Ok-clause-does g c = inr (c.in-Ok.store, c.do_with-status.new.around.store, c.open.new.self, c.in-Ok.ensures, c.do_with-status.ensures.does, c.close.ensures)
