-- A byte completes an answer, or is one more of it.
use Rattle.std.proofs.Common.{◌≡◌, ◌∙◌, ◌++◌, ◌∷◌, [], ℕ, List, inl, append-nil, sym, ap, subst}
use Rattle.escpos_command.specs.declared.answer.Answer.TheVariants as answer
use Rattle.escpos_command.specs.Answers.{AnswerSpells}
use Rattle.escpos_tcp_jobs.proofs.PrinterStatusLemmas.{none_passed, one_passed}
use Rattle.escpos_tcp_jobs.proofs.printer_status.take_byte.Goals as goal

pub returns-in-Ok-Some-Status-clause-status : goal.returns-in-Ok-Some-Status-clause-status
returns-in-Ok-Some-Status-clause-status c = λ status e.
    let same : c.in-Ok-Some-Status.status ≡ status = cc in
    subst (λ s. AnswerSpells (answer.Status s) (c.args.answers.now ++ c.args.byte ∷ [])) same (c.push.ensures.whole (answer.Status c.in-Ok-Some-Status.status) (cc)).1

pub returns-in-Ok-Some-Mark-clause-passed : goal.returns-in-Ok-Some-Mark-clause-passed
returns-in-Ok-Some-Mark-clause-passed c = λ e.
    let whole = c.push.ensures.whole (answer.Mark c.in-Ok-Some-Mark.field-0-0-0) (cc) in
    let bytes : List ℕ = c.args.answers.now ++ c.args.byte ∷ [] in (bytes, one_passed bytes (answer.Mark c.in-Ok-Some-Mark.field-0-0-0) tt whole.1, sym (append-nil bytes) ∙ ap (λ v. bytes ++ v) (sym whole.0))

pub returns-in-Ok-Some-Mark-clause-half : goal.returns-in-Ok-Some-Mark-clause-half
returns-in-Ok-Some-Mark-clause-half c = λ e. inl (c.push.ensures.whole (answer.Mark c.in-Ok-Some-Mark.field-0-0-0) (cc)).0

pub returns-in-Ok-Some-Condition-clause-passed : goal.returns-in-Ok-Some-Condition-clause-passed
returns-in-Ok-Some-Condition-clause-passed c = λ e.
    let whole = c.push.ensures.whole (answer.Condition c.in-Ok-Some-Condition.field-0-0-0) (cc) in
    let bytes : List ℕ = c.args.answers.now ++ c.args.byte ∷ [] in
    (bytes, one_passed bytes (answer.Condition c.in-Ok-Some-Condition.field-0-0-0) tt whole.1, sym (append-nil bytes) ∙ ap (λ v. bytes ++ v) (sym whole.0))

pub returns-in-Ok-Some-Condition-clause-half : goal.returns-in-Ok-Some-Condition-clause-half
returns-in-Ok-Some-Condition-clause-half c = λ e. inl (c.push.ensures.whole (answer.Condition c.in-Ok-Some-Condition.field-0-0-0) (cc)).0

pub returns-in-Ok-None-clause-passed : goal.returns-in-Ok-None-clause-passed
returns-in-Ok-None-clause-passed c = λ e. ([], none_passed, sym (c.push.ensures.half (cc)).0)
