-- What the printer says, or why it doesn't, is printed.
use Rattle.escpos_tcp_jobs.proofs.PrinterStatusLemmas.{asked, asked_in_vain}
use Rattle.escpos_tcp_jobs.proofs.printer_status.status_over.Goals as goal

pub returns-in-Ok-clause-asks : goal.returns-in-Ok-clause-asks
returns-in-Ok-clause-asks g c = asked _ _ _ _ c.in-Ok.ensures.asked c.in-Ok.ensures.told c.tell_status.ensures.tells

pub returns-in-Err-clause-asks : goal.returns-in-Err-clause-asks
returns-in-Err-clause-asks g c = asked_in_vain _ _ _ _ c.in-Err.ensures.fails c.in-Err.ensures.cause c.tell_fault.ensures.tells
