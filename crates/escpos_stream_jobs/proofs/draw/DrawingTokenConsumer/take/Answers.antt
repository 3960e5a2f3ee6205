-- What a command prints is torn off, and its drawing given after that of the commands before it.
use Rattle.std.proofs.Common.{subst, append_assoc, [], ◌∷◌, ◌++◌, ◌∙◌, ap, sym}
use Rattle.escpos_passed.specs.Tokens.{commands_of}
use Rattle.escpos_stream_jobs.proofs.TokenCommands.{one_command_more}
use Rattle.escpos_paper.specs.Printed.{printed}
use Rattle.escpos_picture.specs.Places.{top}
use Rattle.escpos_picture.specs.Groups.{drawings}
use Rattle.escpos_stream_jobs.specs.DrawSteps.{IsDrawn}
use Rattle.escpos_job_parts.proofs.Successes.{succeeded}
use Rattle.escpos_stream_jobs.proofs.Drawings.{drawn_on, on_printed}
use Rattle.escpos_stream_jobs.proofs.draw.DrawingTokenConsumer.take.Goals as goal

pub returns-clause-accepted : goal.returns-clause-accepted
returns-clause-accepted g c = on_printed c.print.result c.print.ensures.given c.print.ensures.place c.print.ensures.torn c.print.ensures.same c.print.ensures.not_failed
    (λ given place torn same not_failed start ts placed taken. (
      λ width text first before is.
          let now = taken.0 width text first before is in
          let cs = commands_of ts in
          let all = before ++ cs in
          let next = succeeded c.apply.result c.if-is_err.ensures.value c.apply.ensures.torn width (printed width all) all now.measured.sheet_is in
          subst (IsDrawn width text first (g.W.ByteOut.written c.print.new.output) c.print.new.self.gather c.print.new.self.page.sheet c.print.new.self.pen) (append_assoc before cs (c.args.command ∷ []) ∙ ap (λ v. before ++ v) (sym (one_command_more ts c.args.command)))
          (drawn_on width c.drawings_in_turn.ensures.places c.drawings_in_turn.ensures.drawn text first _ _ c.apply.new.self.sheet c.print.new.self.page.sheet c.args.self.now.pen c.print.new.self.pen all
          (c.args.command ∷ []) now.measured.place_is next torn place (given first (text ++ drawings (top width) (printed width all)) now.carried)),
      same ∙ taken.1,
      λ well. not_failed (taken.2 well),
    ))
