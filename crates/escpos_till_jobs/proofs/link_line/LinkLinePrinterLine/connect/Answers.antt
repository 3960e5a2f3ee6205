-- There is a link where one was dialled.
use Rattle.std.proofs.Common.{refl, sym, ◌∙◌}
use Rattle.escpos_till_jobs.proofs.LinkLines.{linked}
use Rattle.escpos_till_jobs.proofs.link_line.LinkLinePrinterLine.connect.Goals as goal

pub returns-clause-links : goal.returns-clause-links
returns-clause-links g c = λ some.
    let (link, dialled, is) = linked (λ link. g.D.Dial.dialled c.args.self.now.dialler link c.dial.new.self) c.dial.result (sym c.is_some.ensures ∙ some) c.dial.ensures in
    (link, record { dialler = dialled; is = is; waits = refl })
