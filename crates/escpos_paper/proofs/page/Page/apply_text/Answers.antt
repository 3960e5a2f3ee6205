-- What `apply_text` leaves is the sheet after the characters, and so the sheet of the list with these.
use Rattle.std.proofs.Common.{[], ◌++◌, map, take, ap, ◌∙◌}
use Rattle.std.specs.Prelude.{IsTrue}
use Rattle.std.proofs.lemmas.List.Elements.{All-take}
use Rattle.escpos_command.specs.declared.command.Command.TheVariants.{Char}
use Rattle.escpos_command.specs.Parameters.{is_character}
use Rattle.escpos_command.proofs.Readings.{all_append}
use Rattle.escpos_command.proofs.Texts.{characters_in_range}
use Rattle.escpos_paper.specs.Page.{PageView}
use Rattle.escpos_paper.specs.Torn.{below}
use Rattle.escpos_paper.proofs.Applied.{height_of, width_of, sheet_steps, steps_below}
use Rattle.escpos_paper.proofs.page.Page.apply_text.Goals as goal

pub put_text-requires-clause-visible : goal.put_text-requires-clause-visible
put_text-requires-clause-visible c = (
  (width_of c.self.invariant.line_dots _ c.self.invariant.kept c.self.invariant.commands c.self.invariant.page_is).least,
  (height_of c.self.invariant.line_dots _ c.self.invariant.kept c.self.invariant.commands c.self.invariant.page_is).least,
)

pub put_text-requires-clause-narrow : goal.put_text-requires-clause-narrow
put_text-requires-clause-narrow c = (
  (width_of c.self.invariant.line_dots _ c.self.invariant.kept c.self.invariant.commands c.self.invariant.page_is).most,
  (height_of c.self.invariant.line_dots _ c.self.invariant.kept c.self.invariant.commands c.self.invariant.page_is).most,
)

pub invariant_of-self : goal.invariant_of-self
invariant_of-self c =
    let text = take c.put_text.result c.args.text.now in
    record {
      line_dots = c.self.invariant.line_dots;
      line_in_range = c.self.invariant.line_in_range;
      kept = c.self.invariant.kept;
      commands = c.self.invariant.commands ++ map Char text;
      in_range =
          all_append c.self.invariant.commands (map Char text) c.self.invariant.in_range
          (characters_in_range text (All-take (λ x. IsTrue (is_character x)) c.put_text.result c.args.text.now c.requires.characters));
      page_is = sheet_steps c.self.invariant.line_dots _ _ c.self.invariant.kept c.self.invariant.commands (map Char text) c.put_text.ensures.sheet c.self.invariant.page_is;
    }

pub returns-clause-taken : goal.returns-clause-taken
returns-clause-taken c = λ width kept cs is.
    sheet_steps width _ _ kept cs (map Char (take c.put_text.result c.args.text.now)) c.put_text.ensures.sheet
    (ap (λ (page : PageView). page.sheet) c.self.view_is ∙ c.in_ok-ready.ensures.same ∙ is)

-- The same, below what was torn off.
pub returns-clause-torn : goal.returns-clause-torn
returns-clause-torn c = λ width gone cs is.
    let text = map Char (take c.put_text.result c.args.text.now) in
    sheet_steps width (below gone _) (below gone _) [] cs text (ap (below gone) c.put_text.ensures.sheet ∙ steps_below gone _ text)
    (ap (below gone) (ap (λ (page : PageView). page.sheet) c.self.view_is ∙ c.in_ok-ready.ensures.same) ∙ is)
