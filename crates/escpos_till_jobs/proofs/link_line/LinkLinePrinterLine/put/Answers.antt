-- The link that was taken out is put back.
use Rattle.std.proofs.Common.{inr, refl}
use Rattle.escpos_till_jobs.proofs.LinkLines.{if_err_so, ok_so, taken, with_link}
use Rattle.escpos_till_jobs.proofs.link_line.LinkLinePrinterLine.put.Goals as goal

pub returns-clause-puts : goal.returns-clause-puts
returns-clause-puts g c =
    let (none, paced) = taken _ c.take_paced.result c.in-Some.link c.in-Some.is c.take_paced.ensures.some in
    ok_so c.put-put.result (λ done. (with_link _ _ _ c.args.self.now _ _ c.in-Some.link c.put-put.new.self paced refl done)) c.put-put.ensures.puts

pub returns-clause-breaks : goal.returns-clause-breaks
returns-clause-breaks g c =
    let (none, paced) = taken _ c.take_paced.result c.in-Some.link c.in-Some.is c.take_paced.ensures.some in
    if_err_so c.put-put.result (λ why done. inr (with_link _ _ _ c.args.self.now _ _ c.in-Some.link c.put-put.new.self paced refl done)) c.put-put.ensures.breaks
