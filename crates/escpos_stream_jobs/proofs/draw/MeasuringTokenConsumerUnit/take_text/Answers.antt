-- What characters print is torn off, and passed.
use Rattle.std.proofs.Common.{subst, ap, ◌∙◌, append_assoc, ◌++◌, map, take, sym}
use Rattle.escpos_command.specs.declared.command.Command.TheVariants.{Char}
use Rattle.escpos_passed.specs.Tokens.{commands_of}
use Rattle.escpos_stream_jobs.proofs.TokenCommands.{text_more}
use Rattle.escpos_paper.specs.Printed.{printed}
use Rattle.escpos_picture.specs.Places.{place_after_all}
use Rattle.escpos_stream_jobs.specs.DrawSteps.{IsMeasured}
use Rattle.escpos_stream_jobs.proofs.Drawings.{measured_on}
use Rattle.escpos_stream_jobs.proofs.draw.MeasuringTokenConsumerUnit.take_text.Goals as goal

pub returns-clause-accepted : goal.returns-clause-accepted
returns-clause-accepted c = λ start ts placed taken width before is.
    let now = taken width before is in
    let cs = commands_of ts in
    let all = before ++ cs in
    let text = map Char (take c.in-Ok.count c.args.text.now) in
    subst (IsMeasured width c.tear_off.new.self.sheet c.pass_all.new.self) (append_assoc before cs text ∙ ap (λ v. before ++ v) (sym (text_more ts (take c.in-Ok.count c.args.text.now))))
    (measured_on width c.drawings_in_turn.ensures.places c.apply_text.new.self.sheet c.tear_off.new.self.sheet c.args.self.now.pen c.pass_all.new.self all text
    now.place_is (c.in-Ok.ensures.torn width (printed width all) all now.sheet_is) c.tear_off.ensures.torn (c.pass_all.ensures ∙ ap (place_after_all c.args.self.now.pen) c.items.ensures.items))
