use Rattle.std.proofs.Common.{ap, subst}
use Rattle.escpos_host.specs.Heard.{HearsAll}
use Rattle.escpos_link.specs.declared.event.Event.TheVariants as event
use Rattle.escpos_link.specs.declared.event.Note.TheVariants as note
use Rattle.escpos_link.specs.EventTable.{After}
use Rattle.escpos_link.specs.Wire.{line_of}
use Rattle.escpos_link.proofs.Moving.{after_bad_answer, heard_seen}
use Rattle.escpos_link.proofs.line.Line.answer.Goals as goal

pub returns-in-BadAnswer : goal.returns-in-BadAnswer
returns-in-BadAnswer c =
    let e = c.hear_all-consumed.ensures.heard in
    let hears = subst (λ bs. HearsAll c.self.inside.host bs e.0 c.hear_all-consumed.result.0 c.hear_all-consumed.new.host) c.front.ensures e.1 in
    subst (λ l. After (event.Answer c.args.most) l (note.Heard c.hear_all-consumed.result.0 c.hear_all-consumed.result.1) (line_of c.hear_all-consumed.new.host c.hang_up.new.self)) c.self.view_is
    (after_bad_answer _ (line_of c.hear_all-consumed.new.host c.hang_up.new.self) c.args.most c.hear_all-consumed.result.0 c.in-BadAnswer.at c.hear_all-consumed.result.1 c.hear_all-consumed.new.host e.0 hears e.2 c.in-BadAnswer.is (ap (line_of c.hear_all-consumed.new.host) c.hang_up.ensures))

pub returns : goal.returns
returns c =
    let e = c.hear_all-consumed.ensures.heard in
    let hears = subst (λ bs. HearsAll c.self.inside.host bs e.0 c.hear_all-consumed.result.0 c.hear_all-consumed.new.host) c.front.ensures e.1 in
    heard_seen _ _ _ c.args.most c.hear_all-consumed.result.0 c.hear_all-consumed.result.1 c.hear_all-consumed.new.host e.0 c.self.view_is hears e.2
    (λ at bad. c.in_default.not-BadAnswer at bad) (ap (line_of c.hear_all-consumed.new.host) c.heard.ensures)
