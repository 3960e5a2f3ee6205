-- What a command prints is torn off, and its text given after that of the commands before it.
use Rattle.std.proofs.Common.{subst, append_assoc, [], ◌∷◌, ◌++◌, ap, sym, ◌∙◌}
use Rattle.escpos_passed.specs.Tokens.{commands_of}
use Rattle.escpos_stream_jobs.proofs.TokenCommands.{one_command_more}
use Rattle.escpos_paper.specs.Printed.{printed}
use Rattle.std.specs.Prelude.{flat_map}
use Rattle.escpos_stream_jobs.specs.RenderSteps.{IsRendered}
use Rattle.escpos_job_parts.proofs.Successes.{on_success, succeeded}
use Rattle.escpos_stream_jobs.proofs.Renderings.{rendered_on}
use Rattle.escpos_stream_jobs.proofs.render.RenderingTokenConsumer.take.Goals as goal

pub returns-clause-accepted : goal.returns-clause-accepted
returns-clause-accepted g c = on_success c.print.result c.print.ensures.given c.print.ensures.torn c.print.ensures.not_failed (λ given torn not_failed start ts placed taken. (
  λ width first before is.
      let now = taken.0 width first before is in
      let cs = commands_of ts in
      let all = before ++ cs in
      subst (IsRendered g.F.ItemForm.text width first (g.W.ByteOut.written c.print.new.output) c.print.new.self.gather c.print.new.self.page.sheet) (append_assoc before cs (c.args.command ∷ []) ∙ ap (λ v. before ++ v) (sym (one_command_more ts c.args.command)))
      (rendered_on g.F.ItemForm.text width first _ _ c.apply.new.self.sheet c.print.new.self.page.sheet all (c.args.command ∷ []) (succeeded c.apply.result c.if-is_err.ensures.value c.apply.ensures.torn width (printed width all) all now.sheet_is) torn (given first (flat_map g.F.ItemForm.text (printed width all)) now.carried)),
  λ well. not_failed (taken.1 well),
))
