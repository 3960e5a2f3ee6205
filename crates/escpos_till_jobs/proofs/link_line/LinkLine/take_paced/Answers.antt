-- The link that was open waits as it is to.
use Rattle.std.proofs.Common.{inl, inr, refl, sym, ◌∙◌}
use Rattle.escpos_till_jobs.proofs.LinkLines.{differ}
use Rattle.escpos_till_jobs.proofs.link_line.LinkLine.take_paced.Goals as goal

pub returns-then-patient-self-clause-some : goal.returns-then-patient-self-clause-some
returns-then-patient-self-clause-some g c = (c.take.ensures.after, (c.in_ok-link.link, sym c.take.ensures.value ∙ c.in_ok-link.was, inl (refl, refl, refl), refl, refl))

pub returns-clause-some : goal.returns-clause-some
returns-clause-some g c = (c.take.ensures.after, (c.in_ok-link.link, sym c.take.ensures.value ∙ c.in_ok-link.was, inr (differ c.args.patient c.args.self.now.patient c.if-patient-self.false, c.pace.ensures.paced), c.pace.ensures.source, c.pace.ensures.sink))
