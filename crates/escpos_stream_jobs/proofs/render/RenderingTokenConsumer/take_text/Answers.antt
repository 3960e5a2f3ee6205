-- What characters print is torn off, and its text given after that of the commands before them.
use Rattle.std.proofs.Common.{subst, append_assoc, ◌++◌, map, take, ap, sym, ◌∙◌}
use Rattle.escpos_command.specs.declared.command.Command.TheVariants.{Char}
use Rattle.escpos_passed.specs.Tokens.{commands_of}
use Rattle.escpos_stream_jobs.proofs.TokenCommands.{text_more}
use Rattle.escpos_paper.specs.Printed.{printed}
use Rattle.std.specs.Prelude.{flat_map}
use Rattle.escpos_stream_jobs.specs.RenderSteps.{IsRendered}
use Rattle.escpos_stream_jobs.proofs.Renderings.{rendered_on}
use Rattle.escpos_stream_jobs.proofs.render.RenderingTokenConsumer.take_text.Goals as goal

pub returns-in-Ok-print-clause-accepted : goal.returns-in-Ok-print-clause-accepted
returns-in-Ok-print-clause-accepted g c = λ start ts placed taken. (
  λ width first before is.
      let now = taken.0 width first before is in
      let cs = commands_of ts in
      let all = before ++ cs in
      subst (IsRendered g.F.ItemForm.text width first (g.W.ByteOut.written c.print.new.output) c.print.new.self.gather c.print.new.self.page.sheet) (append_assoc before cs (map Char (take c.in-Ok.count c.args.text.now)) ∙ ap (λ v. before ++ v) (sym (text_more ts (take c.in-Ok.count c.args.text.now))))
      (rendered_on g.F.ItemForm.text width first _ _ c.apply_text.new.self.sheet c.print.new.self.page.sheet all (map Char (take c.in-Ok.count c.args.text.now)) (c.in-Ok.ensures.torn width (printed width all) all now.sheet_is) c.in-Ok-print.ensures.torn (c.in-Ok-print.ensures.given first (flat_map g.F.ItemForm.text (printed width all)) now.carried)),
  λ well. c.in-Ok-print.ensures.not_failed (taken.1 well),
)
