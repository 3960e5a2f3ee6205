-- The link that was open is given back.
use Rattle.std.proofs.Common.{sym, ◌∙◌, inr}
use Rattle.escpos_till_jobs.proofs.link_line.LinkLinePrinterLine.hang_up.Goals as goal

pub returns-in-Some : goal.returns-in-Some
returns-in-Some g c = inr (record { link = c.in-Some.link; was = sym c.take.ensures.value ∙ c.in-Some.is; none = c.take.ensures.after; dialler = c.close.ensures })
