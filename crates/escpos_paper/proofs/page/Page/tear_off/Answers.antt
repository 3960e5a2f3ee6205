-- What is left is a sheet that some other commands leave, too.
use Rattle.std.proofs.Common.{[], ◌∙◌, ap}
use Rattle.escpos_paper.specs.Steps.{sheet_on}
use Rattle.escpos_paper.proofs.Bare.{bare_is_left}
use Rattle.escpos_paper.specs.declared.item.Item.{Item}
use Rattle.escpos_paper.specs.Page.{Sheet}
use Rattle.std.proofs.Common.{List}
use Rattle.escpos_paper.proofs.page.Page.tear_off.Goals as goal

-- The sheet with these items.
abbrev with_items : Sheet → List Item → Sheet
with_items sheet items = record sheet { items = items }

pub invariant_of-self : goal.invariant_of-self
invariant_of-self c =
    let paper = c.self.inside.paper in
    let other = bare_is_left c.self.invariant.line_dots _ c.self.invariant.kept c.self.invariant.commands c.self.invariant.in_range c.self.invariant.page_is in
    record {
      line_dots = c.self.invariant.line_dots;
      line_in_range = c.self.invariant.line_in_range;
      kept = [];
      commands = other.commands;
      in_range = other.in_range;
      page_is = ap (λ items. with_items (sheet_on paper) items) c.clear.ensures.items ∙ other.left;
    }
