-- The text is that of a condition, or there is none.
use Rattle.std.proofs.Common.{◌≡◌, ◌∙◌, Some, None, Ok, ap, refl, sym, subst, codes}
use Rattle.clap.specs.Words.{found_of}
use Rattle.clap.proofs.WalkLemmas.{first_value-rows}
use Rattle.escpos_job_parts.specs.Conditions.{online}
use Rattle.escpos_arguments.specs.Arguments.{IsConditionOr}
use Rattle.escpos_arguments.proofs.emulate.condition_or_online.Goals as goal

pub returns-in-Some-condition_of-clause-read : goal.returns-in-Some-condition_of-clause-read
returns-in-Some-condition_of-clause-read c =
    let found = c.in-Some.ensures ∙ first_value-rows (found_of c.args.given.now) (codes "condition") in
    subst (λ o. IsConditionOr o c.in-Some-condition_of.condition) found (sym c.as_bytes.ensures.value ∙ c.in-Some-condition_of.ensures.read)

pub returns-in-Some-condition_of-clause-taken : goal.returns-in-Some-condition_of-clause-taken
returns-in-Some-condition_of-clause-taken c = λ condition h.
    let found = c.in-Some.ensures ∙ first_value-rows (found_of c.args.given.now) (codes "condition") in
    let same : Some c.in-Some-condition_of.condition ≡ Some condition =
    c.in-Some-condition_of.ensures.given condition (c.as_bytes.ensures.value ∙ subst (λ o. IsConditionOr o condition) (sym found) h) in
    let one : c.in-Some-condition_of.condition ≡ condition = cc in
    ap Ok one

pub returns-in-None-condition_of-clause-taken : goal.returns-in-None-condition_of-clause-taken
returns-in-None-condition_of-clause-taken c = λ condition h.
    let found = c.in-Some.ensures ∙ first_value-rows (found_of c.args.given.now) (codes "condition") in
    let bad : None ≡ Some condition = c.in-None-condition_of.ensures.given condition (c.as_bytes.ensures.value ∙ subst (λ o. IsConditionOr o condition) (sym found) h) in
    cc

pub returns-in-None-clause-read : goal.returns-in-None-clause-read
returns-in-None-clause-read c =
    subst (λ o. IsConditionOr o online) (c.in-None.ensures ∙ first_value-rows (found_of c.args.given.now) (codes "condition")) refl

pub returns-in-None-clause-taken : goal.returns-in-None-clause-taken
returns-in-None-clause-taken c = λ condition h.
    let found = c.in-None.ensures ∙ first_value-rows (found_of c.args.given.now) (codes "condition") in
    let is : condition ≡ online = subst (λ o. IsConditionOr o condition) (sym found) h in
    ap Ok (sym is)
