-- What came before is a prefix of a mark's answer: a byte continues it, or continues no answer.
use Rattle.std.proofs.Common.{◌≡◌, ◌∙◌, ◌==◌, [], ◌∷◌, ◌++◌, length, true, false, sym, ap, subst}
use Rattle.escpos_command.specs.Answers.{HalfAnswer, ViableAnswer}
use Rattle.escpos_host.specs.AnswerReader.{IsFront, goes_on}
use Rattle.escpos_host.proofs.AnswerFronts.{longer_half, not_viable}
use Rattle.escpos_host.proofs.answer_reader.AnswerReader.push.Goals as goal
use Rattle.escpos_host.proofs.answer_reader.AnswerReader.push.Goals.{else-is_empty-via-then-is_empty+else-is_status_byte, else-is_empty-via-else-is_empty}

pub returns-then-not-goes_on-clause-refused : goal.returns-then-not-goes_on-clause-refused
returns-then-not-goes_on-clause-refused c = λ e.
    let h = c.self.inside.bytes.items in
    let b = c.args.byte in
    let off : goes_on h b ≡ false = ap (λ s. goes_on s b) (sym c.as_slice.ensures.value) ∙ sym c.goes_on.ensures ∙ c.if-not-goes_on.true in (
      c.clear.ensures,
      λ viable. not_viable h b c.self.invariant off (λ none. elim c.else-is_empty.branch [
        | else-is_empty-via-then-is_empty+else-is_status_byte w ↦ sym w.is_status_byte.ensures ∙ w.if-is_status_byte.false
        | else-is_empty-via-else-is_empty w ↦
            let clash : true ≡ false = ap (λ s. length s == 0) (sym none) ∙ sym c.is_empty.ensures ∙ w.if-is_empty.false in cc
      ]) (subst (λ s. ViableAnswer (s ++ b ∷ [])) (sym c.self.view_is) viable),
    )

pub returns-in-None-clause-half : goal.returns-in-None-clause-half
returns-in-None-clause-half c = λ e.
    let b = c.args.byte in
    let front = subst (λ s. IsFront (s ++ b ∷ [])) c.as_slice-2.ensures.value c.in-None.ensures in (
      c.push.ensures.items ∙ ap (λ s. s ++ b ∷ []) c.self.view_is,
      subst HalfAnswer (sym c.push.ensures.items) (longer_half c.self.inside.bytes.items b front),
    )
