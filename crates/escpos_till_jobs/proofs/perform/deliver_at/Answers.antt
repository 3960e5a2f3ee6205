-- The line that is made is the one that is taken back.
use Rattle.escpos_till_jobs.proofs.perform.deliver_at.Goals as goal

pub returns-clause-does : goal.returns-clause-does
returns-clause-does g c = (c.line-line.result, c.do_at-line.result.0, c.line-line.new.self, c.line-line.ensures, c.do_at-line.ensures.does, c.end.ensures)
