-- The link that was taken out is put back.
use Rattle.std.proofs.Common.{inr, refl}
use Rattle.escpos_till_jobs.proofs.LinkLines.{if_err_so, if_ok_so, taken, with_link}
use Rattle.escpos_till_jobs.proofs.link_line.LinkLinePrinterLine.pull.Goals as goal

pub returns-clause-gives : goal.returns-clause-gives
returns-clause-gives g c =
    let (none, paced) = taken _ c.take_paced.result c.in-Some.link c.in-Some.is c.take_paced.ensures.some in
    if_ok_so c.pull-pulled.result (λ count done. (with_link _ _ _ c.args.self.now _ _ c.in-Some.link c.pull-pulled.new.self paced refl done)) c.pull-pulled.ensures.gives

pub returns-clause-ends : goal.returns-clause-ends
returns-clause-ends g c =
    let (none, paced) = taken _ c.take_paced.result c.in-Some.link c.in-Some.is c.take_paced.ensures.some in
    if_err_so c.pull-pulled.result (λ why done. inr (with_link _ _ _ c.args.self.now _ _ c.in-Some.link c.pull-pulled.new.self paced refl done)) c.pull-pulled.ensures.ends
