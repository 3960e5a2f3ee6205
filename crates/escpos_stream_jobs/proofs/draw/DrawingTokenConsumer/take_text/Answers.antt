-- What characters print is torn off, and its drawing given after that of the commands before it.
use Rattle.std.proofs.Common.{subst, append_assoc, ◌++◌, ◌∙◌, map, take, ap, sym}
use Rattle.escpos_command.specs.declared.command.Command.TheVariants.{Char}
use Rattle.escpos_passed.specs.Tokens.{commands_of}
use Rattle.escpos_stream_jobs.proofs.TokenCommands.{text_more}
use Rattle.escpos_paper.specs.Printed.{printed}
use Rattle.escpos_picture.specs.Places.{top}
use Rattle.escpos_picture.specs.Groups.{drawings}
use Rattle.escpos_stream_jobs.specs.DrawSteps.{IsDrawn}
use Rattle.escpos_stream_jobs.proofs.Drawings.{drawn_on}
use Rattle.escpos_stream_jobs.proofs.draw.DrawingTokenConsumer.take_text.Goals as goal

pub returns-in-Ok-print-clause-accepted : goal.returns-in-Ok-print-clause-accepted
returns-in-Ok-print-clause-accepted g c = λ start ts placed taken. (
  λ width text first before is.
      let now = taken.0 width text first before is in
      let cs = commands_of ts in
      let all = before ++ cs in
      let more = map Char (take c.in-Ok.count c.args.text.now) in
      subst (IsDrawn width text first (g.W.ByteOut.written c.print.new.output) c.print.new.self.gather c.print.new.self.page.sheet c.print.new.self.pen) (append_assoc before cs more ∙ ap (λ v. before ++ v) (sym (text_more ts (take c.in-Ok.count c.args.text.now))))
      (drawn_on width c.drawings_in_turn.ensures.places c.drawings_in_turn.ensures.drawn text first _ _ c.apply_text.new.self.sheet c.print.new.self.page.sheet c.args.self.now.pen c.print.new.self.pen all more
      now.measured.place_is (c.in-Ok.ensures.torn width (printed width all) all now.measured.sheet_is) c.in-Ok-print.ensures.torn c.in-Ok-print.ensures.place
      (c.in-Ok-print.ensures.given first (text ++ drawings (top width) (printed width all)) now.carried)),
  c.in-Ok-print.ensures.same ∙ taken.1,
  λ well. c.in-Ok-print.ensures.not_failed (taken.2 well),
)
