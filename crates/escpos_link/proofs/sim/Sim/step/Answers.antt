use Rattle.std.proofs.Common.{◌∙◌, ap, subst}
use Rattle.std.specs.Prelude.{IfOk}
use Rattle.escpos_link.specs.Line.{LineView}
use Rattle.escpos_link.specs.Steps.{Happens}
use Rattle.escpos_link.proofs.Happening.{happens, whatever_kept, whatever_trusted}
use Rattle.escpos_link.proofs.sim.Sim.step.Goals as goal

pub invariant_of-self : goal.invariant_of-self
invariant_of-self c =
    let line = c.self.inside.line in (
      whatever_kept (record { kept = c.every_line.ensures.kept; leaves = c.every_line.ensures.leaves; resumes = c.every_line.ensures.resumes })
          c.args.event line c.happen.new.self c.happen.result c.is_sound.ensures c.self.invariant.0 c.happen.ensures.happened c.happen.ensures.refused,
      (whatever_trusted c.trust.ensures c.args.event line c.happen.new.self c.happen.result c.fits.ensures c.is_sound.ensures c.self.invariant.0 c.happen.ensures.happened
          c.happen.ensures.refused c.self.invariant.1).0,
    )

pub returns-clause-happened : goal.returns-clause-happened
returns-clause-happened c =
    subst (λ l. IfOk c.happen.result (λ n. Happens c.args.event l n c.happen.new.self)) c.self.view_is
    (happens c.trust.ensures c.args.event c.self.inside.line c.happen.new.self c.happen.result c.self.invariant.0 c.self.invariant.1 c.happen.ensures.happened)

pub returns-clause-width : goal.returns-clause-width
returns-clause-width c =
    (whatever_trusted c.trust.ensures c.args.event c.self.inside.line c.happen.new.self c.happen.result c.fits.ensures c.is_sound.ensures c.self.invariant.0
    c.happen.ensures.happened c.happen.ensures.refused c.self.invariant.1).1
    ∙ ap (λ (l : LineView). l.printer.sheet.line_dots) c.self.view_is
