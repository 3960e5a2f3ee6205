-- What `apply` leaves is the sheet after the command, and so the sheet of the list with one more command.
use Rattle.std.proofs.Common.{[], ◌∷◌, ◌++◌, ap, ◌∙◌}
use Rattle.escpos_paper.specs.Page.{PageView}
use Rattle.escpos_paper.proofs.Sheets.{sheet_step}
use Rattle.escpos_paper.specs.Torn.{below}
use Rattle.escpos_paper.proofs.Applied.{height_of, width_of, one_more, sheet_made, step_below}
use Rattle.escpos_paper.proofs.page.Page.apply.Goals as goal

pub carry_out-requires-clause-visible : goal.carry_out-requires-clause-visible
carry_out-requires-clause-visible c = (
  (width_of c.self.invariant.line_dots _ c.self.invariant.kept c.self.invariant.commands c.self.invariant.page_is).least,
  (height_of c.self.invariant.line_dots _ c.self.invariant.kept c.self.invariant.commands c.self.invariant.page_is).least,
)

pub carry_out-requires-clause-narrow : goal.carry_out-requires-clause-narrow
carry_out-requires-clause-narrow c = (
  (width_of c.self.invariant.line_dots _ c.self.invariant.kept c.self.invariant.commands c.self.invariant.page_is).most,
  (height_of c.self.invariant.line_dots _ c.self.invariant.kept c.self.invariant.commands c.self.invariant.page_is).most,
)

pub invariant_of-self : goal.invariant_of-self
invariant_of-self c = record {
  line_dots = c.self.invariant.line_dots;
  line_in_range = c.self.invariant.line_in_range;
  kept = c.self.invariant.kept;
  commands = c.self.invariant.commands ++ c.args.command ∷ [];
  in_range = one_more c.self.invariant.commands c.args.command c.self.invariant.in_range c.in_range.ensures;
  page_is =
      sheet_step c.self.invariant.line_dots _ _ c.self.invariant.kept c.self.invariant.commands c.args.command
      (sheet_made c.carry_out.new.self _ _ _ _ _ _ c.carry_out.ensures.line_width c.carry_out.ensures.items c.carry_out.ensures.settings
      c.carry_out.ensures.storage c.carry_out.ensures.stops c.carry_out.ensures.line)
      c.self.invariant.page_is;
}

pub returns-clause-taken : goal.returns-clause-taken
returns-clause-taken c = λ width kept cs is.
    sheet_step width _ _ kept cs c.args.command
    (sheet_made c.carry_out.new.self _ _ _ _ _ _ c.carry_out.ensures.line_width c.carry_out.ensures.items c.carry_out.ensures.settings
    c.carry_out.ensures.storage c.carry_out.ensures.stops c.carry_out.ensures.line)
    (ap (λ (page : PageView). page.sheet) c.self.view_is ∙ c.ready.ensures.same ∙ is)

-- The same, below what was torn off.
pub returns-clause-torn : goal.returns-clause-torn
returns-clause-torn c = λ width gone cs is.
    let step = sheet_made c.carry_out.new.self _ _ _ _ _ _ c.carry_out.ensures.line_width c.carry_out.ensures.items c.carry_out.ensures.settings
    c.carry_out.ensures.storage c.carry_out.ensures.stops c.carry_out.ensures.line in
    sheet_step width (below gone _) (below gone _) [] cs c.args.command (ap (below gone) step ∙ step_below gone _ c.args.command)
    (ap (below gone) (ap (λ (page : PageView). page.sheet) c.self.view_is ∙ c.ready.ensures.same) ∙ is)
