-- With a whole answer no half answer is left.
use Rattle.std.proofs.Common.{◌∙◌, ◌∷◌, ◌++◌, [], inr, Ok, ap, subst}
use Rattle.escpos_command.specs.Answers.{AnswerSpells}
use Rattle.escpos_host.specs.Heard.{Turns, with_half}
use Rattle.escpos_host.specs.Kept.{view_of}
use Rattle.escpos_host.specs.Machine.{HostView}
use Rattle.escpos_host.proofs.host.Host.hear_byte.Goals as goal

pub returns-in-Ok-Some : goal.returns-in-Ok-Some
returns-in-Ok-Some c =
    let h = c.self.inside in
    let whole = c.push.ensures.whole c.in-Ok-Some.answer (c.in-Ok-Some.is ∙ ap Ok c.in-Ok-Some.field-0-is) in
    let before = ap (λ r. view_of h.stage h.receipts.items h.recorded h.closing.items h.left.items h.out r h.next h.oldest) whole.0 ∙ ap (λ v. with_half v []) c.self.view_is in
    inr (inr (
      c.in-Ok-Some.answer,
      subst (λ half. AnswerSpells c.in-Ok-Some.answer (half ++ c.args.byte ∷ [])) (ap (λ (v : HostView). v.half) c.self.view_is) whole.1,
      subst (λ v. Turns v c.in-Ok-Some.answer c.hear_answer.result c.hear_answer.new.self) before c.hear_answer.ensures,
    ))
