-- What holds for a line holds if its host goes on with fewer records.
use Rattle.std.proofs.Common.{◌∙◌, ap}
use Rattle.escpos_link.specs.Line.{LineView}
use Rattle.escpos_link.proofs.Happening.{resume_kept, resume_trusted}
use Rattle.escpos_link.proofs.sim.Sim.resume.Goals as goal

pub invariant_of-self : goal.invariant_of-self
invariant_of-self c =
    let line = c.self.inside.line in (
      resume_kept (record { kept = c.every_line.ensures.kept; leaves = c.every_line.ensures.leaves; resumes = c.every_line.ensures.resumes }) line c.resume.new.self c.args.first_mark c.args.count c.resume.result c.self.invariant.0 c.resume.ensures.resumed c.resume.ensures.refused,
      (resume_trusted c.trust.ensures line c.resume.new.self c.args.first_mark c.args.count c.resume.result c.resume.ensures.resumed c.resume.ensures.refused c.self.invariant.1).0,
    )

pub returns-clause-width : goal.returns-clause-width
returns-clause-width c =
    let line = c.self.inside.line in
    (resume_trusted c.trust.ensures line c.resume.new.self c.args.first_mark c.args.count c.resume.result c.resume.ensures.resumed c.resume.ensures.refused c.self.invariant.1).1
    ∙ ap (λ (l : LineView). l.printer.sheet.line_dots) c.self.view_is
